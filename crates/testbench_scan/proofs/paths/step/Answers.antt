-- The step is there, at its number.
use Rattle.std.proofs.Common.{◌≡◌, ◌⊎◌, ◌+◌, ◌++◌, ◌∷◌, [], List, inl, inr, rules, tests, sym, subst}
use Rattle.testbench_scan.specs.Paths.{HasGrown}
use Rattle.testbench_scan.specs.declared.steps.Step.{Step}
use Rattle.testbench_scan.proofs.Leading.{back_grown, not_grown}
use Rattle.testbench_scan.proofs.paths.step.Goals as goal

grown : (old new : List Step) (step : Step) → (new ≡ old) ⊎ (new ≡ old ++ step ∷ []) → HasGrown old new
grown old new step (inl same) = subst (HasGrown old) (sym same) (not_grown old)
grown old new step (inr more) = (step ∷ [], more)

pub returns-in-Some-clause-leads : goal.returns-in-Some-clause-leads
returns-in-Some-clause-leads c before leads =
    let added = c.in_ok-number.ensures.ok in
    let name_index : c.in-Some.name_index ≡ c.in_ok-number.number + 1 = search (rules, tests, c.in-Some.ensures, c.in-Some.is, c.checked_add.ensures) in (
      c.in_ok-number.number,
      c.args.from,
      name_index,
      added.numbered,
      back_grown c.args.steps.now.keys c.add.new.self.keys c.args.from before (grown c.args.steps.now.keys c.add.new.self.keys _ added.grown) leads,
    )
