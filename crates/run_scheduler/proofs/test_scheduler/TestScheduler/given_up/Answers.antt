-- What remains to be proved of `given_up`.
use Rattle.std.proofs.Common.{subst}
use Rattle.run_spec.specs.Moves.{SchedulerState, Halts, after_move}
use Rattle.run_spec.specs.Steps.{without_ticket}
use Rattle.run_spec.proofs.PlainSteps.{ends_as, lawful_end}
use Rattle.run_scheduler.specs.Rows.{IsSchedulerOf}
use Rattle.run_scheduler.proofs.SchedulerSteps.{greedy_end}
use Rattle.run_scheduler.proofs.test_scheduler.TestScheduler.given_up.Goals as goal

pub returns-clause-lawful : goal.returns-clause-lawful
returns-clause-lawful c workload schedule ok output is = lawful_end schedule c.args.ticket c.end_child-at.result (c.end_child-at.ensures.position workload schedule is)

pub returns-clause-greedy : goal.returns-clause-greedy
returns-clause-greedy c workload schedule ok output is waits = greedy_end c.args.self.now workload schedule is waits

pub returns-clause-in_step : goal.returns-clause-in_step
returns-clause-in_step c workload schedule ok output is =
    subst (λ (next : SchedulerState). IsSchedulerOf c.give_up.new.self workload (after_move workload next Halts)) (ends_as workload schedule c.args.ticket c.end_child-at.result ok output (c.end_child-at.ensures.position workload schedule is))
    (c.give_up.ensures.in_step workload (without_ticket c.args.ticket schedule) c.end_child-at.result ok output c.end_child-at.ensures.before (c.end_child-at.ensures.in_step workload schedule is))
