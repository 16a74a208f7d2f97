-- No `]` so far.
use Rattle.std.proofs.Common.{◌≡◌, ◌-◌, drop}
use Rattle.testbench_select.specs.Patterns.{before_closing, set_length}
use Rattle.testbench_select.proofs.Sets.{shifted}
use Rattle.testbench_select.proofs.reading.members_count.Given as goal

abbrev pub invariant-loop-i : goal.invariant-loop-i
invariant-loop-i l = shifted (l.i - l.at) (before_closing (drop l.i l.bytes)) ≡ set_length (drop l.at l.bytes)
