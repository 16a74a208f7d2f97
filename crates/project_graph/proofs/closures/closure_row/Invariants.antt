-- What the loop of `closure_row` keeps: the rows of the dependencies so far are joined.
use Rattle.std.proofs.Common.{◌≡◌, ℕ, ◌==◌, ◌||◌, get_or, take}
use Rattle.std.specs.List.{list_any}
use Rattle.base_collections.specs.Positions.{has}
use Rattle.project_graph.specs.Rows.{row_has}
use Rattle.project_graph.proofs.closures.closure_row.Given as goal

abbrev pub invariant-loop-dep : goal.invariant-loop-dep
invariant-loop-dep l = (at : ℕ) → has l.row at ≡ list_any (λ dep. (get_or l.ranks dep 0 == at) || row_has l.rows (get_or l.ranks dep 0) at) (take l.dep-index l.deps)
