-- What remains to be proved of `lost`.
use Rattle.run_spec.specs.Moves.{after_move}
use Rattle.run_spec.specs.Steps.{without_ticket}
use Rattle.run_spec.proofs.PlainSteps.{lawful_end}
use Rattle.run_scheduler.proofs.MachineSteps.{greedy_end}
use Rattle.run_scheduler.proofs.build_scheduler.BuildScheduler.record_loss.Goals as goal

pub returns-clause-greedy : goal.returns-clause-greedy
returns-clause-greedy c workload schedule step waits = greedy_end c.args.self.now workload schedule step waits

pub returns-clause-in_step : goal.returns-clause-in_step
unfolding after_move
returns-clause-in_step c workload schedule step = c.stop.ensures.in_step workload (without_ticket c.args.ticket schedule) (c.end_child-at.ensures.in_step workload schedule step)

pub returns-clause-lawful : goal.returns-clause-lawful
returns-clause-lawful c workload schedule step = lawful_end schedule c.args.ticket c.end_child-at.result (c.end_child-at.ensures.position workload schedule step)
