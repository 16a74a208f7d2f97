-- What remains to be proved of `refuse`.
use Rattle.std.proofs.Common.{arith, refl, ◌∙◌}
use Rattle.run_scheduler.specs.Machines.{files_of}
use Rattle.run_scheduler.proofs.MachineSteps.{in_step_refused, halt_refused, no_halt, nearer_by}
use Rattle.run_scheduler.proofs.build_scheduler.BuildScheduler.refuse.Goals as goal

pub returns-then-not-self-clause-in_step : goal.returns-then-not-self-clause-in_step
returns-then-not-self-clause-in_step c workload schedule at output step =
    in_step_refused c.args.self.now _ workload schedule at output refl refl refl refl refl refl refl (halt_refused schedule.halted workload.keep_going (step.keep_going ∙ c.if-not-self.true)) step

pub returns-else-not-self-clause-in_step : goal.returns-else-not-self-clause-in_step
returns-else-not-self-clause-in_step c workload schedule at output step =
    in_step_refused c.args.self.now c.args.self.now workload schedule at output refl refl refl refl refl refl refl (no_halt schedule.halted workload.keep_going (step.keep_going ∙ c.if-not-self.false) ∙ step.halted) step

pub returns-then-not-self-clause-nearer : goal.returns-then-not-self-clause-nearer
unfolding files_of
returns-then-not-self-clause-nearer c = nearer_by c.args.self.now _ (omega arith) (omega arith) (omega arith) (omega arith)
