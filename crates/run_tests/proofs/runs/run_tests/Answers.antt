-- Answers to the goals of `run_tests`.
use Rattle.std.proofs.Common.{◌≡◌, ℕ, Bool, false, List, Option, None, length, refl, sym, ap, subst, subst₂, ◌∙◌}
use Rattle.std.specs.Prelude.{is_some}
use Rattle.std.proofs.lemmas.List.{length-map}
use Rattle.outside.specs.FaultCounts.{child_counts}
use Rattle.testbench_runs.specs.Verdicts.{unstarted_run}
use Rattle.run_spec.specs.TestJournal.{TestSetting, test_workload}
use Rattle.run_tests.specs.Requests.{borrowed_files}
use Rattle.run_spec.specs.Faults.{CountsBy}
use Rattle.run_spec.specs.declared.fault.RunFault.{RunFault}
use Rattle.run_tests.specs.UnderWay.{GoesOn, tests_with}
use Rattle.run_spec.proofs.CountsAtFirst.{counts_at_first}
use Rattle.testbench_runs.specs.declared.runs.TestRun.{TestRun}
use Rattle.passes_spec.specs.Passes.{Pass}
use Rattle.run_tests.specs.Recording.{AreRecorded}
use Rattle.base.specs.declared.child.Event.{Event}
use Rattle.run_tests.proofs.Passes.{first_recorded}
use Rattle.run_tests.proofs.RecordCounts.{no_memory_counts}
use Rattle.run_tests.proofs.TestsThen.{nothing_first_fault}
use Rattle.run_tests.proofs.WholeTests.{first_going_on, none_if, started_at, ran_nothing, ran_fault, ran_done}
use Rattle.run_tests.proofs.runs.run_tests.Goals as goal

pub returns-in_default-clause-ran : goal.returns-in_default-clause-ran
returns-in_default-clause-ran g c = ran_nothing _ _ _ _ _ _ (λ records. first_recorded _ _ _)

pub returns-in_default-clause-counts : goal.returns-in_default-clause-counts
returns-in_default-clause-counts g c = no_memory_counts _

pub loop-at-init : goal.loop-at-init
loop-at-init g c =
    let setting : TestSetting = tests_with c.args.runs.now c.args.simulator.now (borrowed_files (g.K.Records.latest_of c.args.store.now) c.args.graph.now) c.args.limit c.args.fail_fast in
    record {
      going = subst (λ (journal : List Event). GoesOn g.P.Procs.tells (g.P.Procs.answer c.args.procs.now) setting (g.P.Procs.journal c.args.procs.now) c.in-Ok.field-0.scheduler c.in-Ok.field-0.found.items false journal g.R.PassRecorder.records (g.R.PassRecorder.passes c.args.recorder.now) (g.R.PassRecorder.passes c.args.recorder.now)) (sym c.announce_starts.ensures.journal)
          (first_going_on g.P.Procs.tells (g.P.Procs.answer c.args.procs.now) setting (g.P.Procs.journal c.args.procs.now) _ _ g.R.PassRecorder.records (g.R.PassRecorder.passes c.args.recorder.now)
          (c.in-Ok.ensures.in_step (test_workload setting) (record {
            count = refl;
            deps = λ at. refl;
            is_made = λ ended at. refl;
            slots = refl;
            keep_going = refl;
          })) c.in-Ok.ensures.found);
      running = c.announce_starts.ensures.running ∙ c.requires.idle ∙ sym c.in-Ok.ensures.tickets;
      same = c.announce_starts.ensures.same;
      runs = c.in-Ok.ensures.runs;
      found = ap length c.in-Ok.ensures.found ∙ length-map c.args.runs.now unstarted_run;
      over = refl;
      went = g.met.R.PassRecorder.stays c.args.recorder.now;
      usable = λ none. c.requires.usable;
      counts = subst₂ (λ (starts losses : ℕ). CountsBy None false (record { children = child_counts g.P.Procs c.args.procs.now; disks = g.R.PassRecorder.failed_calls c.args.recorder.now }) (record { children = record { starts = starts; losses = losses }; disks = g.R.PassRecorder.failed_calls c.args.recorder.now }))
          (sym c.announce_starts.ensures.starts) (sym c.announce_starts.ensures.children) (counts_at_first false _ refl);
    }

pub start_one-requires-clause-unnoted : goal.start_one-requires-clause-unnoted
start_one-requires-clause-unnoted g c =
    let under = c.loop-at.invariant.going.going.under_way in
    none_if _ (nothing_first_fault _ _ _ _ _ under c.in-Start.at (started_at _ _ c.in-Start.at (c.in-Start.ensures.in_step _ _ under.in_step)))

pub loop-at-preserved-in-Start : goal.loop-at-preserved-in-Start
loop-at-preserved-in-Start g c =
    let before = c.loop-at.invariant in
    record {
      going = c.start_one.ensures.goes _ before.same _ _ _ _ _ _ _ before.going;
      running = c.start_one.ensures.running;
      same = c.start_one.ensures.same ∙ before.same;
      runs = c.start_one.ensures.runs ∙ before.runs;
      found = before.found;
      over = before.over;
      went = before.went;
      usable = λ none. before.usable (c.start_one.ensures.later none);
      counts = c.start_one.ensures.counts _ _ before.counts;
    }

pub loop-at-preserved : goal.loop-at-preserved
loop-at-preserved g c =
    let before = c.loop-at.invariant in
    record {
      going = c.end_one.ensures.goes _ before.same _ _ _ _ _ _ (λ records run output. ap (λ (over : TestRun → List ℕ → Pass). over run output) before.over ∙ c.requires.over records run output) before.going;
      running = c.end_one.ensures.running;
      same = c.end_one.ensures.same ∙ before.same;
      runs = c.end_one.ensures.runs ∙ before.runs;
      found = c.end_one.ensures.found ∙ before.found;
      over = c.end_one.ensures.over ∙ before.over;
      went = g.met.R.PassRecorder.goes_on _ _ _ before.went c.end_one.ensures.went;
      usable = c.end_one.ensures.usable;
      counts = c.end_one.ensures.counts _ before.counts;
    }

pub returns-in-None-clause-counts : goal.returns-in-None-clause-counts
returns-in-None-clause-counts g c =
    subst (λ (o : Option RunFault). CountsBy o false (record { children = child_counts g.P.Procs c.args.procs.now; disks = g.R.PassRecorder.failed_calls c.args.recorder.now }) (record { children = child_counts g.P.Procs c.loop-at.procs; disks = g.R.PassRecorder.failed_calls c.loop-at.recorder }))
    c.in-None.is c.loop-at.invariant.counts

pub returns-clause-counts : goal.returns-clause-counts
returns-clause-counts g c =
    subst (λ (o : Option RunFault). CountsBy o false (record { children = child_counts g.P.Procs c.args.procs.now; disks = g.R.PassRecorder.failed_calls c.args.recorder.now }) (record { children = child_counts g.P.Procs c.loop-at.procs; disks = g.R.PassRecorder.failed_calls c.loop-at.recorder }))
    c.in-Some.is c.loop-at.invariant.counts

pub returns-in-None-clause-ran : goal.returns-in-None-clause-ran
returns-in-None-clause-ran g c =
    let setting : TestSetting = tests_with c.args.runs.now c.args.simulator.now (borrowed_files (g.K.Records.latest_of c.args.store.now) c.args.graph.now) c.args.limit c.args.fail_fast in
    let going = c.loop-at.invariant.going.going in
    let none : is_some c.loop-at.first_fault ≡ false = ap is_some c.in-None.is in
    ran_done g.P.Procs.tells _ setting _ _ _ _ _ going _ _ (λ records. subst (λ (faulty : Bool). AreRecorded setting going.events faulty (g.R.PassRecorder.passes c.args.recorder.now) (g.R.PassRecorder.passes c.loop-at.recorder)) none (c.loop-at.invariant.going.recorded records))
    none (c.in-Finished.ensures.finished refl _ _ going.under_way.in_step) (c.from_vec.ensures ∙ going.under_way.found_all none)

pub returns-clause-ran : goal.returns-clause-ran
returns-clause-ran g c =
    let setting : TestSetting = tests_with c.args.runs.now c.args.simulator.now (borrowed_files (g.K.Records.latest_of c.args.store.now) c.args.graph.now) c.args.limit c.args.fail_fast in
    let going = c.loop-at.invariant.going.going in
    ran_fault g.P.Procs.tells _ setting _ _ _ _ _ going _ _ (λ records. subst (λ (faulty : Bool). AreRecorded setting going.events faulty (g.R.PassRecorder.passes c.args.recorder.now) (g.R.PassRecorder.passes c.loop-at.recorder)) (ap is_some c.in-Some.is) (c.loop-at.invariant.going.recorded records))
