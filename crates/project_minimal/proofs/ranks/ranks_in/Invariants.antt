-- The ranks so far.
use Rattle.std.proofs.Common.{◌≡◌, filter}
use Rattle.std.specs.Prelude.{slice_index}
use Rattle.base.specs.PresentGraph.{below}
use Rattle.base_collections.specs.Positions.{has}
use Rattle.project_minimal.proofs.ranks.ranks_in.Given as goal

abbrev pub invariant-loop-rank : goal.invariant-loop-rank
invariant-loop-rank l = l.ranks ≡ filter (λ rank. has l.set (slice_index l.order rank)) (below l.rank)
