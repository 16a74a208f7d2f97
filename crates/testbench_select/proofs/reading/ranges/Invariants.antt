-- The ranges so far, followed by the ranges of the remaining bytes, are those of the set.
use Rattle.std.proofs.Common.{◌≡◌, ◌++◌, length}
use Rattle.testbench_select.specs.Patterns.{ranges_of}
use Rattle.testbench_select.proofs.reading.ranges.Given as goal

abbrev pub invariant-loop-rest : goal.invariant-loop-rest
invariant-loop-rest l = l.ranges ++ ranges_of l.rest ≡ ranges_of l.members

abbrev pub decreases-loop-rest : goal.decreases-loop-rest
decreases-loop-rest l = length l.rest
