-- What remains to be proved of `earlier`.
use Rattle.std.proofs.Common.{sym, ap, ◌∙◌, List, ℕ, ◌++◌, ◌∷◌, []}
use Rattle.base.proofs.Below.{below-zero, below-more}
use Rattle.project_views.proofs.listed.earlier.Goals as goal

pub loop-dep-init : goal.loop-dep-init
loop-dep-init c = c.new-positions.ensures ∙ sym below-zero

pub loop-dep-preserved : goal.loop-dep-preserved
loop-dep-preserved c = c.in_ok-push.ensures.ok ∙ ap (λ (positions : List ℕ). positions ++ c.loop-dep.dep ∷ []) c.loop-dep.invariant ∙ sym (below-more c.loop-dep.dep)
