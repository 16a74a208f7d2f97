-- What remains to be proved of `stop`.
use Rattle.std.proofs.Common.{arith, refl, sym}
use Rattle.run_spec.specs.Moves.{Halts, after_move}
use Rattle.run_scheduler.specs.Machines.{files_of}
use Rattle.run_scheduler.proofs.NextSteps.{start_is, no_check, no_start, on_from}
use Rattle.run_scheduler.proofs.MachineSteps.{in_step_as, nearer_by, nearer_stop, stopped_last, or_true}
use Rattle.run_scheduler.proofs.build_scheduler.BuildScheduler.stop.Goals as goal

pub returns-clause-in_step : goal.returns-clause-in_step
unfolding after_move
returns-clause-in_step c workload schedule step =
    in_step_as c.args.self.now _ workload schedule (after_move workload schedule Halts) refl refl refl refl refl refl refl (λ k lt is. refl) (λ k lt made. made) step.running step.started (sym (or_true c.args.self.now.is_halted)) step

pub returns-clause-no_check : goal.returns-clause-no_check
returns-clause-no_check c = no_check _ refl

pub returns-clause-over : goal.returns-clause-over
returns-clause-over c = no_start _ refl

pub returns-clause-nearer : goal.returns-clause-nearer
unfolding files_of
returns-clause-nearer c = nearer_by c.args.self.now _ (omega arith) (omega arith) (omega arith) (stopped_last c.args.self.now.is_stopped)

pub returns-clause-ends : goal.returns-clause-ends
unfolding files_of
returns-clause-ends c at is =
    nearer_stop c.args.self.now _ (omega arith) (omega arith) (omega arith) refl (on_from c.args.self.now.is_halted c.args.self.now.is_stopped (start_is c.args.self.now at is).goes_on)
