-- The remaining pattern parts match the rest of the name exactly if all pattern parts match the name. No part remains, or
-- the first one is `*`.
use Rattle.std.proofs.Common.{◌↔◌, length}
use Rattle.testbench_select.specs.Matching.{Matches}
use Rattle.testbench_select.specs.Segments.{BeginsAnyBytes}
use Rattle.testbench_select.proofs.matching.matches_any.Given as goal

abbrev pub invariant-loop-left : goal.invariant-loop-left
invariant-loop-left l = record { begins : BeginsAnyBytes l.left; same : Matches l.left l.rest ↔ Matches l.pattern_parts l.name }

abbrev pub decreases-loop-left : goal.decreases-loop-left
decreases-loop-left l = length l.left
