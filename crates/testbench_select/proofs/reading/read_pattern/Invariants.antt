-- The pattern parts so far, followed by those of the remaining bytes, are those of the pattern.
use Rattle.std.proofs.Common.{◌≡◌, ◌≤◌, ◌-◌, ◌++◌, length, drop}
use Rattle.testbench_select.specs.Patterns.{pattern_parts_of}
use Rattle.testbench_select.proofs.reading.read_pattern.Given as goal

abbrev pub invariant-loop-at : goal.invariant-loop-at
invariant-loop-at l = record { within : l.at ≤ length l.bytes; pattern_parts : l.pattern_parts ++ pattern_parts_of (drop l.at l.bytes) ≡ pattern_parts_of l.bytes }

abbrev pub decreases-loop-at : goal.decreases-loop-at
decreases-loop-at l = length l.bytes - l.at
