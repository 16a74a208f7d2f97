-- What remains to be proved of `judge`.
use Rattle.std.proofs.Common.{refl, ◌∙◌}
use Rattle.run_scheduler.proofs.SchedulerSteps.{in_step_ended, scheduler_halts, scheduler_goes_on, scheduler_keeps}
use Rattle.run_scheduler.proofs.test_scheduler.TestScheduler.judge.Goals as goal

pub returns-then-not-ok-clause-in_step : goal.returns-then-not-ok-clause-in_step
returns-then-not-ok-clause-in_step c workload schedule at output lt is =
    in_step_ended c.args.self.now _ workload schedule at c.args.ok output refl refl refl refl refl (scheduler_halts schedule.halted workload.keep_going c.args.self.now.fail_fast c.args.ok is.of_workload.keep_going c.if-self.true c.if-not-ok.true) lt is

pub returns-else-not-ok-clause-in_step : goal.returns-else-not-ok-clause-in_step
returns-else-not-ok-clause-in_step c workload schedule at output lt is =
    in_step_ended c.args.self.now c.args.self.now workload schedule at c.args.ok output refl refl refl refl refl (scheduler_goes_on schedule.halted workload.keep_going c.args.self.now.fail_fast c.args.ok is.of_workload.keep_going c.if-not-ok.false ∙ is.halted) lt is

pub returns-else-self-clause-in_step : goal.returns-else-self-clause-in_step
returns-else-self-clause-in_step c workload schedule at output lt is =
    in_step_ended c.args.self.now c.args.self.now workload schedule at c.args.ok output refl refl refl refl refl (scheduler_keeps schedule.halted workload.keep_going c.args.self.now.fail_fast c.args.ok is.of_workload.keep_going c.if-self.false ∙ is.halted) lt is
