use Rattle.std.proofs.Common.{◌∙◌, ◌∷◌, [], length, ap, arith}
use Rattle.std.proofs.lemmas.List.{length-append}
use Rattle.base_bytes.specs.Reading.{many_at}
use Rattle.base_bytes.proofs.Many.{goes_on, stops, is_done}
use Rattle.child_compile_request.specs.Reading.{built_at}
use Rattle.child_compile_request.proofs.reading.built_files.Goals as goal

pub returns-in_default : goal.returns-in_default
returns-in_default c =
    let none = rw c.in_default.is at c.in_ok-file.ensures.read in
    stops built_at c.loop.files c.args.count c.loop.counter c.loop.reader (many_at built_at c.args.count c.args.reader.now) c.loop-test.true none c.loop.invariant.read

pub loop-preserved : goal.loop-preserved
loop-preserved c =
    let one = rw c.in-Some.is at c.in_ok-file.ensures.read in
    record {
      read = rw c.in_ok-push.ensures.ok
          (goes_on built_at c.loop.files c.args.count c.loop.counter c.loop.reader c.in-Some.file c.built_file.new.reader (many_at built_at c.args.count c.args.reader.now) c.loop-test.true one c.loop.invariant.read);
      few = ap length c.in_ok-push.ensures.ok ∙ length-append c.loop.files (c.in-Some.file ∷ []) ∙ omega (arith, c.loop.invariant.few);
    }

pub returns : goal.returns
returns c = is_done built_at c.loop.files c.args.count c.loop.counter c.loop.reader (many_at built_at c.args.count c.args.reader.now) c.loop-test.false c.loop.invariant.read
