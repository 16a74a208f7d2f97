-- What remains to be proved of `step`.
use Rattle.std.proofs.Common.{sym, ap, ◌∙◌, ◌==◌, length}
use Rattle.run_spec.specs.Steps.{step_of}
use Rattle.run_scheduler.specs.declared.step.BuildStep.TheVariants.{Run}
use Rattle.run_scheduler.specs.Machines.{check_before, candidate_of, next_of}
use Rattle.run_scheduler.proofs.build_scheduler.BuildScheduler.step.Goals as goal

pub returns-in-Some : goal.returns-in-Some
unfolding next_of
returns-in-Some c = ap (λ o. check_before o (step_of (candidate_of c.args.self.now) (length c.args.self.now.children.items == 0))) (sym c.in-Some.is ∙ c.due_check.ensures)

pub returns-in-None : goal.returns-in-None
unfolding next_of
returns-in-None c = ap Run c.run_step.ensures ∙ ap (λ o. check_before o (step_of (candidate_of c.args.self.now) (length c.args.self.now.children.items == 0))) (sym c.in-None.is ∙ c.due_check.ensures)
