-- The files of the set, at the ranks of the order.
use Rattle.std.proofs.Common.{◌∙◌, ℕ, List, Some, length, filter, ap, arith}
use Rattle.std.specs.Prelude.{slice_index}
use Rattle.std.proofs.lemmas.Result.{IfOk-weaker}
use Rattle.base.specs.PresentGraph.{below}
use Rattle.base_collections.specs.Positions.{has}
use Rattle.project_minimal.specs.MinimalSet.{said_of}
use Rattle.project_minimal.proofs.RankLaws.{same_ranks}
use Rattle.project_minimal.proofs.graphs.linked_ranks.Goals as goal

pub returns : goal.returns
returns c = IfOk-weaker c.ranks_in.result _ _ (λ kept is scans are.
    is ∙ ap (λ (order : List ℕ). filter (λ rank. has c.in_ok-set.set (slice_index order rank)) (below (length order))) c.as_slice.ensures
    ∙ same_ranks (said_of c.args.project.now c.args.texts.now scans (Some c.args.edges.now)) c.args.tests.now (has c.in_ok-set.set) (c.in_ok-set.ensures scans are) c.args.order.now (λ k d low. omega (arith, c.requires.order.within k d low, c.requires.as_many))) c.ranks_in.ensures
