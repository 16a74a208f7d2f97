-- Answers to the goals of `end_one`.
use Rattle.std.proofs.Common.{◌≤◌, false, Bool, ◌++◌, [], ◌∷◌, List, ℕ, Option, Some, Result, Err, length, refl, sym, ap, subst, ◌∙◌, arith}
use Rattle.std.specs.Prelude.{is_some}
use Rattle.std.proofs.lemmas.Bool.{false≢true}
use Rattle.std.proofs.lemmas.List.{append_assoc, append-nil, length-take}
use Rattle.base.specs.declared.child.Event.{Event}
use Rattle.base.specs.declared.child.Event.TheVariants as event
use Rattle.outside.specs.Children.{end_event}
use Rattle.outside.specs.declared.procs.Ended.{Ended}
use Rattle.outside.specs.declared.procs.WaitFault.{WaitFault}
use Rattle.outside.specs.Counts.{ChildCounts}
use Rattle.passes_spec.specs.Passes.{Pass}
use Rattle.run_build.proofs.BorrowedFiles.{item_at}
use Rattle.run_spec.specs.Faults.{CountsBy}
use Rattle.run_spec.specs.Steps.{halted_if}
use Rattle.run_spec.specs.TestJournal.{TestSetting, progress_of_tests, test_workload}
use Rattle.run_spec.specs.declared.fault.RunFault.{RunFault}
use Rattle.run_scheduler.specs.Rows.{IsSchedulerOf}
use Rattle.testbench_runs.specs.declared.ends.TheConstants.{SHOWN_LIMIT}
use Rattle.run_tests.specs.UnderWay.{passes_told, tests_with}
use Rattle.run_tests.proofs.FreshTickets.{fresh_ended, fresh_lost}
use Rattle.run_tests.proofs.Answering.{answers_ended, answers_lost}
use Rattle.run_tests.proofs.Passes.{ended_either, lost_recorded, told_pass}
use Rattle.run_tests.proofs.TestsThen.{recorded_then}
use Rattle.run_tests.proofs.ends.end_one.Goals as goal

pub record_pass-requires-clause-shown : goal.record_pass-requires-clause-shown
record_pass-requires-clause-shown g c = λ end is.
    subst (λ (l : List ℕ). length l ≤ SHOWN_LIMIT) (sym (c.in-Some.ensures.shown end is)) (omega (arith, length-take SHOWN_LIMIT c.in-Ok.field-0.exit.output))

pub returns-in-Some-clause-goes : goal.returns-in-Some-clause-goes
returns-in-Some-clause-goes g c = λ answer same simulator built slots fail_fast old before over goes.
    let ended : Event = event.Ended c.in-Ok.field-0.ticket c.in-Ok.field-0.exit in
    let setting : TestSetting = tests_with c.args.runs.now simulator built slots fail_fast in
    let going = goes.going in
    let events : List Event = going.events ++ ended ∷ [] in
    let unnoted = c.in-Some.ensures.unnoted in
    let faulty : Bool = is_some c.record_pass.new.first_fault in
    let taken = c.take_exit-passed.ensures.goes simulator built slots fail_fast going.events going.under_way in
    let run = item_at c.args.runs.now c.in-Some.at c.in-Some.ensures.position in
    let end = item_at c.take_exit-passed.new.found.items c.in-Some.at (omega (arith, c.in-Some.ensures.position, c.take_exit-passed.ensures.found, c.requires.found)) in
    record {
      going = record {
        events = events;
        under_way = recorded_then setting events c.take_exit-passed.new.scheduler c.take_exit-passed.new.found.items (is_some c.take_exit-passed.new.first_fault) taken c.record_pass.new.scheduler faulty (ap is_some unnoted.1)
            (c.record_pass.ensures.in_step (test_workload setting) (progress_of_tests setting events).schedule
            (subst (λ (o : Option RunFault). IsSchedulerOf c.take_exit-passed.new.scheduler (test_workload setting) (halted_if (is_some o) (progress_of_tests setting events).schedule)) unnoted.1 taken.in_step));
        journal = λ tells. c.in-Ok.ensures.journal tells ∙ ap (λ (l : List Event). l ++ ended ∷ []) (going.journal tells) ∙ append_assoc old going.events (ended ∷ []);
        fresh = λ tells. fresh_ended old going.events (going.fresh tells) c.in-Ok.field-0.ticket c.in-Ok.field-0.exit;
        answers = λ tells. answers_ended answer old going.events (going.answers tells) (g.P.Procs.journal c.args.procs.now) (g.P.Procs.answer c.args.procs.now) c.in-Ok.field-0.ticket c.in-Ok.field-0.exit (going.journal tells) same (c.in-Ok.ensures.exit tells);
      };
      recorded = λ records. ended_either setting going.events (is_some c.args.first_fault.now) before (g.R.PassRecorder.passes c.args.recorder.now) (goes.recorded records) faulty c.in-Ok.field-0.ticket c.in-Ok.field-0.exit
          (passes_told setting c.in-Ok.field-0.exit (Some c.in-Some.at)) (g.R.PassRecorder.passes c.record_pass.new.recorder)
          (λ none. ap is_some unnoted.0)
          (λ none. c.in-Some.ensures.passes simulator built slots fail_fast going.events going.under_way (ap is_some unnoted.1))
          (λ none. c.record_pass.ensures.recorded records none run.0 end.0 run.1 end.1
          ∙ ap (λ (l : List Pass). g.R.PassRecorder.passes c.args.recorder.now ++ l) (told_pass setting (g.R.PassRecorder.pass_with c.args.recorder.now) c.in-Some.at run.0 c.in-Ok.field-0.exit end.0.output (over records) run.1 (c.in-Some.ensures.shown end.0 end.1)))
          (λ fault. c.record_pass.ensures.kept records fault);
    }

pub returns-in-Ok-clause-goes : goal.returns-in-Ok-clause-goes
returns-in-Ok-clause-goes g c = λ answer same simulator built slots fail_fast old before over goes.
    let ended : Event = event.Ended c.in-Ok.field-0.ticket c.in-Ok.field-0.exit in
    let setting : TestSetting = tests_with c.args.runs.now simulator built slots fail_fast in
    let going = goes.going in
    record {
      going = record {
        events = going.events ++ ended ∷ [];
        under_way = c.take_exit-passed.ensures.goes simulator built slots fail_fast going.events going.under_way;
        journal = λ tells. c.in-Ok.ensures.journal tells ∙ ap (λ (l : List Event). l ++ ended ∷ []) (going.journal tells) ∙ append_assoc old going.events (ended ∷ []);
        fresh = λ tells. fresh_ended old going.events (going.fresh tells) c.in-Ok.field-0.ticket c.in-Ok.field-0.exit;
        answers = λ tells. answers_ended answer old going.events (going.answers tells) (g.P.Procs.journal c.args.procs.now) (g.P.Procs.answer c.args.procs.now) c.in-Ok.field-0.ticket c.in-Ok.field-0.exit (going.journal tells) same (c.in-Ok.ensures.exit tells);
      };
      recorded = λ records. ended_either setting going.events (is_some c.args.first_fault.now) before (g.R.PassRecorder.passes c.args.recorder.now) (goes.recorded records) (is_some c.take_exit-passed.new.first_fault) c.in-Ok.field-0.ticket c.in-Ok.field-0.exit
          [] (g.R.PassRecorder.passes c.args.recorder.now)
          c.take_exit-passed.ensures.later
          (λ none. c.in_default.ensures.passes simulator built slots fail_fast going.events going.under_way none)
          (λ none. sym (append-nil (g.R.PassRecorder.passes c.args.recorder.now)))
          (λ fault. refl);
    }

pub returns-clause-goes : goal.returns-clause-goes
returns-clause-goes g c = λ answer same simulator built slots fail_fast old before over goes.
    let lost : Event = end_event (Err c.in-Err.fault) in
    let going = goes.going in
    record {
      going = record {
        events = going.events ++ lost ∷ [];
        under_way = c.lose_by.ensures.goes _ going.events c.args.found.now.items going.under_way;
        journal = λ tells. c.in-Err.ensures.journal tells ∙ ap (λ (l : List Event). l ++ lost ∷ []) (going.journal tells) ∙ append_assoc old going.events (lost ∷ []);
        fresh = λ tells. fresh_lost old going.events (going.fresh tells) c.in-Err.fault;
        answers = λ tells. answers_lost answer old going.events (going.answers tells) c.in-Err.fault;
      };
      recorded = λ records. lost_recorded _ going.events (is_some c.args.first_fault.now) before (g.R.PassRecorder.passes c.args.recorder.now) (goes.recorded records) (is_some c.lose_by.new.first_fault) c.in-Err.fault c.lose_by.ensures.faulty;
    }

pub returns-clause-usable : goal.returns-clause-usable
returns-clause-usable g c = λ none. absurd (false≢true (sym none ∙ c.lose_by.ensures.faulty))

pub returns-clause-counts : goal.returns-clause-counts
returns-clause-counts g c = λ first counts.
    let cause = subst (λ (r : Result Ended WaitFault). ChildCounts r (g.P.Procs.lost_children c.args.procs.now) (g.P.Procs.lost_children c.wait_any.new.self)) c.in-Err.is c.wait_any.ensures.cause in
    subst (λ (starts : ℕ). CountsBy c.lose_by.new.first_fault false first (record { children = record { starts = starts; losses = g.P.Procs.lost_children c.wait_any.new.self }; disks = g.R.PassRecorder.failed_calls c.args.recorder.now }))
    (sym c.wait_any.ensures.starts) (c.lose_by.ensures.counts first _ (g.P.Procs.lost_children c.wait_any.new.self) cause counts)
