-- What remains to be proved of `due_check`.
use Rattle.std.proofs.Common.{arith, sym, ◌∙◌}
use Rattle.std.proofs.lemmas.Bool.{cond-true, cond-false}
use Rattle.order.specs.Waits.{is_listed}
use Rattle.order.proofs.WaitSteps.{unlisted_past}
use Rattle.run_scheduler.specs.Machines.{check_of, files_of}
use Rattle.run_scheduler.proofs.Passing.{next_first}
use Rattle.run_scheduler.proofs.build_scheduler.BuildScheduler.due_check.Goals as goal

pub returns-then-self : goal.returns-then-self
unfolding check_of
returns-then-self c = sym (cond-true _ _ _ c.if-self.true)

pub returns : goal.returns
unfolding check_of files_of
returns c =
    sym (cond-false _ _ _ c.if-self.false
    ∙ next_first (is_listed c.args.self.now.later) _ c.next.result c.next.ensures.next (λ k le. unlisted_past c.args.self.now.later k (omega (arith, le, c.args.self.now.as_many_later))))
