-- The rest of the name begins with the remaining pattern parts exactly if the name begins with all pattern parts.
use Rattle.std.proofs.Common.{◌≡◌, drop}
use Rattle.testbench_select.specs.Segments.{has_prefix}
use Rattle.testbench_select.proofs.matching.begins.Given as goal

abbrev pub invariant-loop-i : goal.invariant-loop-i
invariant-loop-i l = has_prefix (drop l.i l.pattern_parts) (drop l.i l.name) ≡ has_prefix l.pattern_parts l.name
