-- No `]` from the end on.
use Rattle.std.proofs.Common.{◌≡◌, ◌≤◌, length, drop, None}
use Rattle.testbench_select.specs.Patterns.{before_closing}
use Rattle.testbench_select.proofs.reading.end_of_sets.Given as goal

abbrev pub invariant-loop-end : goal.invariant-loop-end
invariant-loop-end l = record { within : l.end ≤ length l.bytes; none : before_closing (drop l.end l.bytes) ≡ None }

abbrev pub decreases-loop-end : goal.decreases-loop-end
decreases-loop-end l = l.end
