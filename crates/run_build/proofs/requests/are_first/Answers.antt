-- Answers to the goals of `are_first`.
use Rattle.std.proofs.Common.{◌++◌, ◌∷◌, [], ℕ, List, take, sym, ap, ◌∙◌, arith}
use Rattle.std.proofs.lemmas.List.{take_all, take_more}
use Rattle.base.specs.PresentGraph.{below}
use Rattle.base.proofs.Below.{below-zero, below-more}
use Rattle.run_build.proofs.requests.are_first.Goals as goal

pub loop-at-init : goal.loop-at-init
loop-at-init c = sym below-zero

pub loop-at-preserved : goal.loop-at-preserved
loop-at-preserved c =
    take_more c.args.deps.now c.loop-at.at 0 c.loop-at-test.true
    ∙ ap (λ (n : ℕ). take c.loop-at.at c.args.deps.now ++ n ∷ []) c.if-deps-at.false
    ∙ ap (λ (l : List ℕ). l ++ c.loop-at.at ∷ []) c.loop-at.invariant
    ∙ sym (below-more c.loop-at.at)

pub returns : goal.returns
returns c = λ told. sym (take_all c.loop-at.at c.args.deps.now (omega arith)) ∙ c.loop-at.invariant ∙ ap below (omega arith)
