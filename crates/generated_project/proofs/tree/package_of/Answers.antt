-- The text is that of the package whose number the path has.
use Rattle.std.proofs.Common.{ℕ, List, Some, refl, sym, ap, ◌∙◌, arith}
use Rattle.generated_project.proofs.Indices.{package_found}
use Rattle.generated_project.proofs.tree.package_of.Goals as goal

pub returns : goal.returns
returns c =
    package_found c.args.packages c.args.edited c.number_in-number.result c.args.path.now (omega (arith, c.ranges.packages.fits, c.if-number-packages.false)) (omega (arith, c.if-number-eq0.false)) c.if-number-packages.false
    (sym c.in_ok-own.ensures ∙ c.if-not-same.ensures.0 refl)
    ∙ ap (λ (text : List ℕ). Some text) (sym c.in_ok-package_text.ensures)
