-- So far each is met.
use Rattle.std.proofs.Common.{◌≡◌, All, take}
use Rattle.run_scheduler.specs.declared.plans.Need.TheVariants.{Fresh}
use Rattle.tests_verdicts.proofs.asked.all_fresh.Given as goal

abbrev pub invariant-loop-need : goal.invariant-loop-need
invariant-loop-need l = All (λ need. need ≡ Fresh) (take l.need-index l.needs)
