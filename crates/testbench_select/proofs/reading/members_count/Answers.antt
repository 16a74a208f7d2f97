-- Byte by byte.
use Rattle.std.proofs.Common.{arith, ◌∙◌, ◌+◌, ◌-◌, sym, ap, drop}
use Rattle.testbench_select.specs.Patterns.{before_closing}
use Rattle.testbench_select.proofs.Sets.{shifted, begins_search, found, passed, none_after}
use Rattle.testbench_select.proofs.reading.members_count.Goals as goal

pub loop-i-init : goal.loop-i-init
loop-i-init c = begins_search c.args.bytes.now c.args.at c.requires.within

pub returns-then-bytes-i-eq93-clause-count : goal.returns-then-bytes-i-eq93-clause-count
returns-then-bytes-i-eq93-clause-count c =
    sym (found c.args.bytes.now c.loop-i.i (c.loop-i.i - c.args.at) (omega (arith, c.loop-i-test.true, c.requires.end)) c.if-bytes-i-eq93.true) ∙ c.loop-i.invariant

pub loop-i-preserved : goal.loop-i-preserved
loop-i-preserved c =
    ap (λ n. shifted n (before_closing (drop (c.loop-i.i + 1) c.args.bytes.now))) (omega (arith, c.loop-i.auto.i))
    ∙ sym (passed c.args.bytes.now c.loop-i.i (c.loop-i.i - c.args.at) (omega (arith, c.loop-i-test.true, c.requires.end)) c.if-bytes-i-eq93.false) ∙ c.loop-i.invariant

pub returns-clause-count : goal.returns-clause-count
returns-clause-count c = sym (none_after c.args.bytes.now c.args.end c.loop-i.i (c.loop-i.i - c.args.at) c.loop-i-test.false c.requires.none) ∙ c.loop-i.invariant
