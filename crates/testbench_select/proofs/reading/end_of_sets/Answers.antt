-- Byte by byte from the right.
use Rattle.std.proofs.Common.{arith}
use Rattle.testbench_select.proofs.Sets.{none_at_end, none_before}
use Rattle.testbench_select.proofs.reading.end_of_sets.Goals as goal

pub loop-end-init : goal.loop-end-init
loop-end-init c = record { within = omega arith; none = none_at_end c.args.bytes.now }

pub loop-end-preserved : goal.loop-end-preserved
loop-end-preserved c =
    record { within = omega (arith, c.loop-end.invariant.within); none = none_before c.args.bytes.now c.loop-end.end c.loop-end-test.true c.loop-end.invariant.within c.if-bytes-end-ne93.true c.loop-end.invariant.none }
