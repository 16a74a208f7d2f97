-- Answers to the goals of `record_pass`.
use Rattle.std.proofs.Common.{false, None, Option, Some, Result, sym, ap, subst, ◌∙◌}
use Rattle.outside.specs.Counts.{StoreCounts}
use Rattle.outside.specs.declared.records.StoreFault.{StoreFault}
use Rattle.run_spec.specs.Faults.{CountsBy, with_fault}
use Rattle.run_spec.specs.declared.fault.RunFault.{RunFault}
use Rattle.run_tests.proofs.RecordCounts.{counts_after_fault}
use Rattle.run_tests.proofs.recording.record_pass.Goals as goal

pub returns-in-Err-clause-in_step : goal.returns-in-Err-clause-in_step
returns-in-Err-clause-in_step g c = λ workload schedule is. c.halt.ensures.in_step workload schedule false is

pub returns-in-Err-clause-counts : goal.returns-in-Err-clause-counts
returns-in-Err-clause-counts g c = λ first now counts.
    let cause = subst (λ (r : Result (Unit {0}) StoreFault). StoreCounts r (g.R.PassRecorder.failed_calls c.args.recorder.now) (g.R.PassRecorder.failed_calls c.record.new.self)) c.in-Err.is c.record.ensures.cause in
    subst (λ (o : Option RunFault). CountsBy o false first (record now { disks = g.R.PassRecorder.failed_calls c.record.new.self }))
    (sym (c.halt.ensures.first_fault ∙ ap (λ (o : Option RunFault). Some (with_fault o c.record_fault.result)) c.requires.unnoted ∙ ap (λ (fault : RunFault). Some (with_fault None fault)) c.record_fault.ensures))
    (counts_after_fault (Unit {0}) c.in-Err.fault first now _ _ counts cause)
