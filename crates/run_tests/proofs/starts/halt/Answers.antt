-- Answers to the goals of `halt`.
use Rattle.std.proofs.Common.{Option, sym, ap, subst, ◌∙◌}
use Rattle.std.specs.Prelude.{is_some}
use Rattle.run_spec.specs.Steps.{halted_if}
use Rattle.run_spec.proofs.Halting.{halts_now}
use Rattle.run_scheduler.specs.Rows.{IsSchedulerOf}
use Rattle.run_spec.specs.declared.fault.RunFault.{RunFault}
use Rattle.run_tests.proofs.starts.halt.Goals as goal

pub returns-clause-in_step : goal.returns-clause-in_step
returns-clause-in_step c = λ workload schedule halts is.
    subst (IsSchedulerOf c.stop.new.self workload) (halts_now workload halts schedule ∙ ap (λ (o : Option RunFault). halted_if (is_some o) schedule) (sym c.note.ensures)) (c.stop.ensures.in_step workload (halted_if halts schedule) is)
