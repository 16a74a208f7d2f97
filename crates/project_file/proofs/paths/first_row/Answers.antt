-- What remains to be proved of `first_row`.
use Rattle.std.proofs.Common.{◌≡◌, ◌++◌, ◌∷◌, [], false, true, length, subst, sym, ap, ◌∙◌}
use Rattle.std.specs.Prelude.{replicate}
use Rattle.project_file.specs.PathRows.{IsRow, fits_parts}
use Rattle.project_file.proofs.PathSteps.{no_parts_row}
use Rattle.project_file.proofs.paths.first_row.Goals as goal

pub returns : goal.returns
returns c =
    let old : c.in_ok-row.row.items ≡ replicate (length c.args.components.now) false = c.in_ok-row.ensures.items_if_clones_equal (λ y same. same) in
    subst (IsRow (fits_parts []) c.args.components.now) (sym (c.in_ok-push.ensures.items ∙ ap (λ row. row ++ true ∷ []) old)) (no_parts_row c.args.components.now)
