use Rattle.std.proofs.Common.{rules}
use Rattle.std.specs.Io.KnownBytes.{prepend_known}
use Rattle.system_files.proofs.LineParts.{part_grows, taken_at}
use Rattle.system_files.proofs.lines.take_line.Goals as goal

pub returns-then-ends-clause-line : goal.returns-then-ends-clause-line
returns-then-ends-clause-line g c =
    let part = c.loop.invariant.1 in
    let both = taken_at (prepend_known c.args.buffered.now (g.R.Read.remaining c.args.reader.now)) (prepend_known c.loop.buffered (g.R.Read.remaining c.loop.reader)) (g.R.Read.remaining c.refill.new.reader)
    part.seen c.rest-rest.result.now c.line_length-length.result c.args.limit c.whole_line.result part.taken (rw c.rest-rest.ensures c.in_ok-refill.ensures.same) part.unended
    c.line_length-length.ensures.length c.if-ends.true (c.whole_line.ensures.line _ (c.in_ok-add.ensures.part part.seen part.part)) in
    both.0

pub returns-then-ends-clause-left : goal.returns-then-ends-clause-left
returns-then-ends-clause-left g c =
    let part = c.loop.invariant.1 in
    let both = taken_at (prepend_known c.args.buffered.now (g.R.Read.remaining c.args.reader.now)) (prepend_known c.loop.buffered (g.R.Read.remaining c.loop.reader)) (g.R.Read.remaining c.refill.new.reader)
    part.seen c.rest-rest.result.now c.line_length-length.result c.args.limit c.whole_line.result part.taken (rw c.rest-rest.ensures c.in_ok-refill.ensures.same) part.unended
    c.line_length-length.ensures.length c.if-ends.true (c.whole_line.ensures.line _ (c.in_ok-add.ensures.part part.seen part.part)) in
    rw (c.skip.ensures, ← c.rest-rest.ensures) both.1

pub loop-preserved : goal.loop-preserved
loop-preserved g c =
    let part = c.loop.invariant.1 in (
      search rules,
      rw (c.skip-in-loop.ensures, ← c.rest-rest.ensures)
          (part_grows c.args.limit _ _ (g.R.Read.remaining c.refill.new.reader) c.rest-rest.result.now _ _ _ _ c.line_length-length.result part (rw c.rest-rest.ensures c.in_ok-refill.ensures.same)
          c.line_length-length.ensures.length c.if-ends.false (c.in_ok-add.ensures.part part.seen part.part)),
    )
