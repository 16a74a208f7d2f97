-- The steps of a walk along links.
use Rattle.std.specs.Prelude.{ℕ, ◌<◌, List}
use Rattle.std.specs.List.{All}
use Rattle.vhdl_scope.specs.declared.order.Step.{Step}

-- the steps stand at indices below a number
abbrev pub AreStepsBelow : ℕ → List Step → Type 0
AreStepsBelow row_indices steps = All (λ step. step.row_index < row_indices) steps
