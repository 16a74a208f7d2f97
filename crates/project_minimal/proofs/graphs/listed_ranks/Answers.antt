-- The files of the set.
use Rattle.std.proofs.Common.{◌∙◌, ℕ, None, length, filter, refl, ap}
use Rattle.std.proofs.lemmas.Result.{IfOk-weaker}
use Rattle.base.specs.PresentGraph.{below}
use Rattle.base_collections.specs.Positions.{has}
use Rattle.project_minimal.specs.MinimalSet.{said_of}
use Rattle.project_minimal.proofs.RankLaws.{same_positions}
use Rattle.project_minimal.proofs.graphs.listed_ranks.Goals as goal

pub returns : goal.returns
returns c = IfOk-weaker c.positions_below.result _ _ (λ kept is scans are.
    is ∙ ap (λ (n : ℕ). filter (has c.in_ok-set.set) (below n)) c.len.ensures
    ∙ same_positions (said_of c.args.project.now c.args.texts.now scans None) c.args.tests.now (has c.in_ok-set.set) (c.in_ok-set.ensures scans are) (length c.args.project.now.files) refl) c.positions_below.ensures
