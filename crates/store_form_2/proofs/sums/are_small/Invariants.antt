use Rattle.std.proofs.Common.{◌≡◌, ◌+◌, take}
use Rattle.std.specs.Prelude.{sum_by}
use Rattle.base.specs.declared.limits.TheConstants.{GRAPH_TEXT_LIMIT}
use Rattle.store_form_2.specs.Fits.{length_at}
use Rattle.store_form_2.proofs.sums.are_small.Given as goal

abbrev pub invariant-loop-dep : goal.invariant-loop-dep
invariant-loop-dep l = sum_by (length_at l.table.nodes l.lengths) (take l.dep-index l.deps) + l.left ≡ GRAPH_TEXT_LIMIT
