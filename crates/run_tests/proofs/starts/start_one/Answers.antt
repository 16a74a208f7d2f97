-- Answers to the goals of `start_one`.
use Rattle.std.proofs.Common.{◌≡◌, Bool, true, false, [], ◌∷◌, ◌++◌, List, sym, ap, subst, ◌∙◌}
use Rattle.std.specs.Prelude.{is_some}
use Rattle.std.specs.Option.{option_map}
use Rattle.std.proofs.lemmas.List.{append_assoc}
use Rattle.std.proofs.lemmas.Option.{get_or_from_slice_get}
use Rattle.base.specs.declared.child.Event.{Event}
use Rattle.base.specs.declared.child.Event.TheVariants.{Started}
use Rattle.base.specs.declared.child.Request.{Request}
use Rattle.base.specs.declared.graph.BuiltFile.{BuiltFile}
use Rattle.testbench_runs.specs.declared.runs.TestRun.{TestRun}
use Rattle.testbench_runs.specs.Runs.{FitsRun}
use Rattle.testbench_runs.specs.BenchJobs.{bench_request}
use Rattle.run_spec.specs.TestJournal.{TestSetting}
use Rattle.run_tests.specs.Requests.{borrowed_files}
use Rattle.run_tests.specs.UnderWay.{tests_with}
use Rattle.run_tests.specs.Recording.{AreRecorded}
use Rattle.run_tests.proofs.Passes.{faulty_recorded, started_recorded}
use Rattle.run_tests.proofs.TestsThen.{started_then, halted_then}
use Rattle.run_tests.proofs.FreshTickets.{fresh_started}
use Rattle.run_tests.proofs.Answering.{answers_started}
use Rattle.run_tests.proofs.starts.start_one.Goals as goal

pub try_start-requires-clause-fits : goal.try_start-requires-clause-fits
try_start-requires-clause-fits g c =
    subst FitsRun (get_or_from_slice_get c.args.runs.now c.args.at c.get-run.result.now c.get-run.result.now c.get-run.ensures) (c.requires.fits c.args.at c.get-run.result.now c.requires.position)

pub returns-in-Ok-clause-goes : goal.returns-in-Ok-clause-goes
returns-in-Ok-clause-goes g c = λ answer same slots fail_fast old found records before now goes.
    let files : List BuiltFile = borrowed_files (g.K.Records.latest_of c.args.store.now) c.args.graph.now in
    let setting : TestSetting = tests_with c.args.runs.now c.args.simulator.now files slots fail_fast in
    let request : Request = bench_request c.get-run.result.now c.args.simulator.now files in
    let going = goes.going in
    let is = going.under_way in
    let sound : is_some c.args.first_fault.now ≡ false = ap is_some c.requires.unnoted in
    record {
      going = record {
        events = going.events ++ Started c.in-Ok.ticket request ∷ [];
        under_way = started_then setting going.events c.args.scheduler.now found _ is c.record_start.new.self c.args.at c.in-Ok.ticket request (c.record_start.ensures.lawful _ _ is.in_step)
            (ap (option_map (λ (run : TestRun). bench_request run c.args.simulator.now files)) c.get-run.ensures) (c.record_start.ensures.in_step _ _ is.in_step);
        journal = λ tells. c.in-Ok.ensures.journal tells ∙ ap (λ (l : List Event). l ++ Started c.in-Ok.ticket request ∷ []) (going.journal tells) ∙ append_assoc old going.events (Started c.in-Ok.ticket request ∷ []);
        fresh = λ tells. fresh_started old going.events (going.fresh tells) (g.P.Procs.journal c.args.procs.now) c.in-Ok.ticket request (going.journal tells) (c.in-Ok.ensures.fresh tells);
        answers = λ tells. answers_started answer old going.events (going.answers tells) c.in-Ok.ticket request;
      };
      recorded = λ r. subst (λ (faulty : Bool). AreRecorded setting (going.events ++ Started c.in-Ok.ticket request ∷ []) faulty before now) (sym sound) (started_recorded setting going.events (is_some c.args.first_fault.now) before now (goes.recorded r) sound c.in-Ok.ticket request);
    }

pub returns-in-Err-clause-goes : goal.returns-in-Err-clause-goes
returns-in-Err-clause-goes g c = λ answer same slots fail_fast old found records before now goes.
    let setting : TestSetting = tests_with c.args.runs.now c.args.simulator.now (borrowed_files (g.K.Records.latest_of c.args.store.now) c.args.graph.now) slots fail_fast in
    let going = goes.going in
    let faulty : is_some c.halt.new.first_fault ≡ true = ap is_some c.halt.ensures.first_fault in
    record {
      going = record {
        events = going.events;
        under_way = halted_then setting going.events c.args.scheduler.now found _ going.under_way (is_some c.halt.new.first_fault) faulty c.halt.new.scheduler (c.halt.ensures.in_step _ _ _ going.under_way.in_step);
        journal = λ tells. c.in-Err.ensures.quiet tells ∙ going.journal tells;
        fresh = going.fresh;
        answers = going.answers;
      };
      recorded = λ r. subst (λ (f : Bool). AreRecorded setting going.events f before now) (sym faulty) (faulty_recorded setting going.events (is_some c.args.first_fault.now) before now (goes.recorded r));
    }
