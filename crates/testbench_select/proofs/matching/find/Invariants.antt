-- No index so far.
use Rattle.std.proofs.Common.{◌≡◌, ◌<◌, ℕ, false, drop}
use Rattle.testbench_select.specs.Segments.{has_prefix}
use Rattle.testbench_select.proofs.matching.find.Given as goal

abbrev pub invariant-loop-at : goal.invariant-loop-at
invariant-loop-at l = (before : ℕ) → before < l.at → has_prefix l.pattern_parts (drop before l.name) ≡ false
