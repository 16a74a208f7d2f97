-- What remains to be proved of `give_up`.
use Rattle.std.proofs.Common.{refl}
use Rattle.run_spec.specs.Moves.{after_move}
use Rattle.run_scheduler.proofs.SchedulerSteps.{unmade_after_end}
use Rattle.run_scheduler.proofs.test_scheduler.TestScheduler.give_up.Goals as goal

pub returns-clause-in_step : goal.returns-clause-in_step
unfolding after_move
returns-clause-in_step c workload schedule at ok output lt is = record {
  of_workload = is.of_workload;
  halted = refl;
  running = is.running;
  taken = is.taken;
  unmade = unmade_after_end c.args.self.now workload schedule at ok output is lt;
}
