-- Answers to the goals of `start_one`.
use Rattle.std.proofs.Common.{◌≡◌, ◌++◌, [], ◌∷◌, List, ℕ, Option, sym, ap, subst}
use Rattle.std.proofs.lemmas.List.{append-nil}
use Rattle.base.specs.declared.child.Event.{Event}
use Rattle.base.specs.declared.child.Event.TheVariants.{Started}
use Rattle.run_spec.specs.Commits.{commits}
use Rattle.run_spec.specs.declared.fault.RunFault.{RunFault}
use Rattle.std.specs.Prelude.{is_some}
use Rattle.run_spec.specs.ChildJournal.{workload_of, schedule_of, progress_of}
use Rattle.run_scheduler.specs.Machines.{IsMachineOf}
use Rattle.run_build.specs.UnderWay.{BuildState, with_machine, work_from, IsUnderWay, IsJournalled}
use Rattle.run_spec.specs.Steps.{halted_if}
use Rattle.run_build.proofs.UnderWayThen.{still_all, started_under_way, commits_started, halted_under_way}
use Rattle.run_build.proofs.FirstFaults.{first_start}
use Rattle.run_build.proofs.JournalThen.{journal_started}
use Rattle.run_build.proofs.starts.start_one.Goals as goal

pub returns-in-Ok-clause-goes : goal.returns-in-Ok-clause-goes
returns-in-Ok-clause-goes g c = λ from events acknowledged statuses broken is journal.
    let before : BuildState = record { machine = c.args.scheduler.now; statuses = statuses; first_fault = c.args.first_fault.now; latest_of = g.K.Records.latest_of c.args.store.now; broken = broken } in
    let start = c.record_start.ensures.lawful _ _ is.in_step in
    let ticket : ℕ = c.in-Ok.ticket in
    let request = c.in-Ok.ensures.journal.0 in
    let asked = c.in-Ok.ensures.journal.1 in
    record {
      more = Started ticket request ∷ [];
      under_way = started_under_way c.args.graph.now from events acknowledged before is c.args.at start ticket request asked c.record_start.new.self c.record_start.ensures.checked c.record_start.ensures.stopped
          (c.record_start.ensures.in_step _ _ is.in_step);
      journal = λ tells. journal_started (g.P.Procs.answer c.args.procs.now) (work_from c.args.graph.now from) events from.journal (g.P.Procs.journal c.args.procs.now) (journal tells) ticket request (g.P.Procs.journal c.try_start.new.procs)
          (c.in-Ok.ensures.fresh tells) (c.in-Ok.ensures.journal.2 tells);
      same = commits_started c.args.graph.now from events acknowledged before is c.args.at start ticket request asked;
    }

pub returns-in-Err-clause-goes : goal.returns-in-Err-clause-goes
returns-in-Err-clause-goes g c = λ from events acknowledged statuses broken is journal.
    let before : BuildState = record { machine = c.args.scheduler.now; statuses = statuses; first_fault = c.args.first_fault.now; latest_of = g.K.Records.latest_of c.args.store.now; broken = broken } in
    let none : events ++ [] ≡ events = append-nil events in
    let halted : IsUnderWay c.args.graph.now from events acknowledged (with_machine c.halt.new.scheduler c.halt.new.first_fault before) =
    subst (λ (o : Option RunFault). IsUnderWay c.args.graph.now from events acknowledged (with_machine c.halt.new.scheduler o before)) (sym c.halt.ensures.first_fault)
    (halted_under_way c.args.graph.now from events acknowledged before is c.halt.new.scheduler _ c.halt.ensures.checked c.halt.ensures.stopped
    (subst (λ (o : Option RunFault). IsMachineOf c.halt.new.scheduler (workload_of (work_from c.args.graph.now from)) (halted_if (is_some o) (schedule_of (progress_of (work_from c.args.graph.now from) events)))) c.halt.ensures.first_fault (c.halt.ensures.in_step _ _ _ is.in_step))
    (still_all c.args.first_fault.now c.in-Err.fault broken)
    (first_start (work_from c.args.graph.now from) events acknowledged broken c.args.first_fault.now c.in-Err.fault _ _ c.requires.unnoted c.in-Err.ensures.starts)) in
    record {
      more = [];
      under_way = subst (λ (l : List Event). IsUnderWay c.args.graph.now from l acknowledged (with_machine c.halt.new.scheduler c.halt.new.first_fault before)) (sym none) halted;
      journal = λ tells.
          subst (λ (l : List Event). IsJournalled (g.P.Procs.answer c.args.procs.now) (work_from c.args.graph.now from) l from.journal (g.P.Procs.journal c.try_start.new.procs)) (sym none)
          (subst (IsJournalled (g.P.Procs.answer c.args.procs.now) (work_from c.args.graph.now from) events from.journal) (sym (c.in-Err.ensures.quiet tells)) (journal tells));
      same = ap (commits (work_from c.args.graph.now from)) none;
    }
