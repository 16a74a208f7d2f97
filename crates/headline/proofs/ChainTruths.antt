-- What follows of one run, and then of the next.
use Rattle.std.proofs.Common.{◌≡◌, ℕ, ◌<◌, Bool, true, false, List, [], ◌∷◌, ◌++◌, length, map, get_or, Option, Some, None, refl, sym, ap, subst, ◌∙◌, arith, inl, inr}
use Rattle.std.specs.Prelude.{◌↔◌, All, is_some, slice_get, unwrap_or, Contains}
use Rattle.std.specs.List.{list_any}
use Rattle.std.specs.Option.{option_map_or}
use Rattle.base.specs.declared.graph.Entry.{Entry}
use Rattle.base.specs.Graphs.{IsGraph}
use Rattle.base.specs.PresentGraph.{below}
use Rattle.base.proofs.Below.{get_or-below, length-below}
use Rattle.std.proofs.lemmas.Bool.{or_from, false≢true}
use Rattle.std.proofs.lemmas.List.{append-nil}
use Rattle.std.proofs.lemmas.List.Elements.{All-head, All-tail}
use Rattle.base.specs.declared.file.FileName.{FileName}
use Rattle.base.specs.declared.graph.BuiltFile.{BuiltFile}
use Rattle.base.specs.declared.child.Request.{Request}
use Rattle.base.specs.declared.child.Exit.{Exit}
use Rattle.base.specs.declared.child.Event.{Event}
use Rattle.base_outcomes.specs.declared.outcome.Outcome.{Outcome}
use Rattle.outside.specs.Records.{Record, IsRecorded, asked_now, built_of_record, deps_at, latest_built, no_built}
use Rattle.outside.specs.Disks.{DiskState, reads_of, settled_disk}
use Rattle.outside.specs.Commits.{last_state}
use Rattle.run_spec.specs.ChildJournal.{Work, End, progress_of, exit_at, built_file, built_at, artefact_so_far, artefact_after}
use Rattle.run_spec.specs.Histories.{Sources, Order, ProgramRun, empty_image, IsReadable, IsMoment, IsLeft, RunStep, work_over, latest_over}
use Rattle.run_spec.specs.JournalParts.{compile_part, test_part}
use Rattle.run_spec.specs.Recorded.{current_by_request}
use Rattle.run_spec.specs.Settled.{request_unless}
use Rattle.run_spec.specs.Statuses.{status_of, status_at, is_refused}
use Rattle.run_spec.proofs.Parts.{all_compiled}
use Rattle.run_spec.proofs.Artefacts.{deps_before}
use Rattle.run_spec.proofs.RecordedArtefacts.{current_of_record}
use Rattle.run_laws.proofs.CleanRanks.{filter_map-cons}
use Rattle.run_laws.proofs.JournalStarted.{nothing_due}
use Rattle.run_laws.specs.Spares.{IsAcknowledged, SparesFile}
use Rattle.run_laws.proofs.SparedRuns.{all_there}
use Rattle.vhdl_spec.specs.Scans.{Finding}
use Rattle.run_tests.specs.Histories.{HistoryStep, Ran, Stopped, HasTested, TestsStep, IsHistory}
use Rattle.run_tests.specs.Rights.{AllRight}
use Rattle.run_tests.specs.Spares.{AllSpare}
use Rattle.run_tests.proofs.HistorySteps.{all_right_from_empty, stopped_spares}
use Rattle.vunit_top.specs.Store.{records_in_image}
use Rattle.vunit_top.specs.Reading.{Reading, Testing, Bad, Child, Stops, Over, Lists, ListsTests, Exports, Builds, Runs, reading, Generates}
use Rattle.vunit_top.specs.Runs.{world_of, RunsAs}
use Rattle.vunit_top.specs.Said.{HasBuilt, no_order, order_of, order_in, plan_in}
use Rattle.vunit_top.proofs.RunTruths.{built_ended, none_in_empty_image}
use Rattle.headline.specs.Chains.{Deeds, run_by, RanTwice, RanAfterStop}

-- a file with an artefact isn't refused
made_status : (keep_going : Bool) (exit : Option Exit) (artefact : Option (List ℕ)) → is_some artefact ≡ true → is_refused (status_of keep_going exit artefact) ≡ false
made_status keep_going None (Some artefact) is = refl
made_status keep_going (Some exit) (Some artefact) is = refl
made_status keep_going exit None is = absurd (false≢true is)

-- so that where all files have one, none is
none_refused : (work : Work) (ends : List End) (positions : List ℕ) → All (λ position. is_some (artefact_so_far work ends position) ≡ true) positions → list_any is_refused (map (status_at work ends) positions) ≡ false
none_refused work ends [] all = refl
none_refused work ends (position ∷ positions) all =
    or_from (is_refused (status_at work ends position)) (list_any is_refused (map (status_at work ends) positions))
    (made_status work.keep_going (exit_at ends position) (artefact_so_far work ends position) (All-head (λ p. is_some (artefact_so_far work ends p) ≡ true) position positions all))
    (none_refused work ends positions (All-tail (λ p. is_some (artefact_so_far work ends p) ≡ true) position positions all))

-- the artefact of the latest record of the file at a position
abbrev kept_artefact : (FileName → Option Record) → List Entry → ℕ → List ℕ
kept_artefact latest_of graph position = (latest_built latest_of graph position).artefact

module _ (latest_of : FileName → Option Record) (graph : List Entry) where
  -- a file that has a record is built as that says, where the record is of its name
  built_one : (position : ℕ) → IsRecorded latest_of graph position → built_file (slice_get graph position) (Some (kept_artefact latest_of graph position)) ≡ Some (latest_built latest_of graph position)
  built_one position recorded =
      let kept : Record = record { asked = asked_now latest_of graph recorded.entry; artefact = recorded.artefact } in
      let built : latest_built latest_of graph position ≡ built_of_record kept =
      ap (λ (o : Option Entry). option_map_or (λ (e : Entry). option_map_or built_of_record (latest_of e.name) no_built) o no_built) recorded.is_entry ∙ ap (λ (o : Option Record). option_map_or built_of_record o no_built) recorded.is in
      ap (λ (o : Option Entry). built_file o (Some (kept_artefact latest_of graph position))) recorded.is_entry
      ∙ ap (λ (file : BuiltFile). Some (record { name = recorded.entry.name; artefact = file.artefact })) built
      ∙ ap (λ (file : BuiltFile). Some file) (sym built)

  built_all : (deps : List ℕ) → All (IsRecorded latest_of graph) deps → built_at graph (λ p. Some (kept_artefact latest_of graph p)) deps ≡ map (latest_built latest_of graph) deps
  unfolding built_at
  built_all [] all = refl
  built_all (dep ∷ deps) all =
      filter_map-cons (λ p. built_file (slice_get graph p) (Some (kept_artefact latest_of graph p))) dep deps (Some (latest_built latest_of graph dep)) (built_one dep (All-head (IsRecorded latest_of graph) dep deps all))
      ∙ ap (λ (files : List BuiltFile). latest_built latest_of graph dep ∷ files) (built_all deps (All-tail (IsRecorded latest_of graph) dep deps all))

  -- where each file has a record of what would be asked for it now, each is current over the artefacts of all
  all_current : IsGraph graph → ((position : ℕ) → position < length graph → IsRecorded latest_of graph position) → (at : ℕ) → at < length graph
      → current_by_request latest_of graph at (built_at graph (λ p. Some (kept_artefact latest_of graph p)) (deps_at graph at)) ≡ Some (kept_artefact latest_of graph at)
  all_current is each at lt =
      let here : IsRecorded latest_of graph at = each at lt in
      let deps_are : deps_at graph at ≡ here.entry.deps = ap (λ (o : Option Entry). option_map_or (λ (e : Entry). e.deps) o []) here.is_entry in
      let files : built_at graph (λ p. Some (kept_artefact latest_of graph p)) (deps_at graph at) ≡ map (latest_built latest_of graph) here.entry.deps =
      built_all (deps_at graph at) (λ k d l. each (get_or (deps_at graph at) k d) (omega (arith, deps_before graph is at k d l, lt))) ∙ ap (map (latest_built latest_of graph)) deps_are in
      let own : latest_built latest_of graph at ≡ record { name = here.entry.name; artefact = here.artefact } =
      ap (λ (o : Option Entry). option_map_or (λ (e : Entry). option_map_or built_of_record (latest_of e.name) no_built) o no_built) here.is_entry ∙ ap (λ (o : Option Record). option_map_or built_of_record o no_built) here.is in
      ap (current_by_request latest_of graph at) files
      ∙ current_of_record latest_of graph at here.entry (map (latest_built latest_of graph) here.entry.deps) here.is_entry here.artefact here.is
      ∙ ap (λ (file : BuiltFile). Some file.artefact) (sym own)

module _ (scan : List ℕ → Finding) (compiler : Request → Exit) (run : ProgramRun) (first : DiskState) where
  -- where each file has a record of what would be asked for it now, a run starts nothing
  nothing_started : (order : Option Order) → RunStep (world_of scan compiler) order run first
      → ((position : ℕ) → position < length (unwrap_or order no_order).graph → IsRecorded (latest_over records_in_image (unwrap_or order no_order).clean first) (unwrap_or order no_order).graph position) → run.events ≡ []
  nothing_started None step each = step.events
  nothing_started (Some order) (inl idle) each = idle.events
  nothing_started (Some order) (inr build) each =
      let latest_of : FileName → Option Record = latest_over records_in_image order.clean first in
      nothing_due (work_over records_in_image order first)
      (all_there (work_over records_in_image order first) build.graph (kept_artefact latest_of order.graph) (all_current latest_of order.graph build.graph each)) run.events build.lawful

  -- a run that is done has started exactly the files that the settled build asks for
  exact_starts : (r : Reading) (last : DiskState) → RunsAs scan compiler r run first last → HasBuilt run.outcome → (position : ℕ) →
      Contains (progress_of (work_over records_in_image (order_in r) first) run.events).taken position
      ↔ ((request : Request) × (request_unless compiler (work_over records_in_image (order_in r) first).graph (work_over records_in_image (order_in r) first).current position ≡ Some request))
  exact_starts r last did done =
      let setting : Work = work_over records_in_image (order_in r) first in
      let count : ℕ = length (order_in r).graph in
      let made : All (λ position. is_some (artefact_after setting run.events position) ≡ true) (below count) = λ k d l.
      subst (λ (p : ℕ). is_some (artefact_after setting run.events p) ≡ true) (sym (get_or-below count k d (subst (λ (n : ℕ). k < n) (length-below count) l))) (did.made done k (subst (λ (n : ℕ). k < n) (length-below count) l)) in
      (did.exact (built_ended run.outcome done) (inr (none_refused setting (progress_of setting run.events).ends (below count) made))).started

-- what a call says of the tests of a run over a disk, by what was read
pub record TestsOf (r : Reading) (events : List Event) (disk : DiskState) : Type 0 where
  pub untested : plan_in r ≡ None → test_part events ≡ []
  pub tested : (asked : Testing) → r ≡ Runs asked → HasTested asked.order asked.plan (work_over records_in_image asked.order disk) (compile_part events) (test_part events)

-- what they did is a step of a history with tests
pub tests_step : (compiled tests : List Event) (first : DiskState) (r : Reading) → (plan_in r ≡ None → tests ≡ []) →
    ((asked : Testing) → r ≡ Runs asked → HasTested asked.order asked.plan (work_over records_in_image asked.order first) compiled tests) → TestsStep records_in_image (order_of r) (plan_in r) compiled tests first
tests_step compiled tests first Bad none some = none refl
tests_step compiled tests first (Child tool) none some = none refl
tests_step compiled tests first (Stops reason) none some = none refl
tests_step compiled tests first (Over limit number) none some = none refl
tests_step compiled tests first (Lists graph) none some = none refl
tests_step compiled tests first (ListsTests tests_there) none some = none refl
tests_step compiled tests first (Exports path text) none some = none refl
tests_step compiled tests first (Builds order warnings) none some = none refl
tests_step compiled tests first (Runs asked) none some = some asked refl
tests_step compiled tests first (Generates options) none some = none refl

module _ (scan : List ℕ → Finding) (compiler : Request → Exit) (words : List (List ℕ)) (sources : Sources) (one two : Outcome) (before after : Deeds) where
  abbrev r : Reading
  r = reading scan words sources

  abbrev First : DiskState → DiskState → Type 0
  First first middle = RunsAs scan compiler r (run_by words one before) first middle

  abbrev Second : DiskState → DiskState → Type 0
  Second middle last = RunsAs scan compiler r (run_by words two after) middle last

  -- after a run that is done each file has a record of what would be asked for it now
  each_recorded : (first middle : DiskState) → IsReadable middle → First first middle → (order_in r).clean ≡ false → HasBuilt one → (position : ℕ) → position < length (order_in r).graph
      → IsRecorded (latest_over records_in_image (order_in r).clean middle) (order_in r).graph position
  each_recorded first middle readable did kept_store done position inside =
      subst (λ (clean : Bool). IsRecorded (latest_over records_in_image clean middle) (order_in r).graph position) (sym kept_store)
      (did.recorded (built_ended one done) position inside (did.made done position inside) (reads_of middle) readable)

  pub ran_twice : (first middle last : DiskState) (old new : List Event) → IsReadable middle → First first middle → Second middle last → new ≡ (old ++ before.events) ++ after.events → TestsOf r before.events first → TestsOf r after.events middle → RanTwice scan compiler words sources (record { first = one; second = two }) (record { disk = first; journal = old }) (record { disk = last; journal = new })
  unfolding IsHistory
  ran_twice first middle last old new readable did next journal tests again =
      let kept_at : RunStep (world_of scan compiler) (order_of r) (run_by words two after) (last_state first before.later) = subst (RunStep (world_of scan compiler) (order_of r) (run_by words two after)) (sym did.ends) next.step in
      let none : (order_in r).clean ≡ false → HasBuilt one → compile_part after.events ≡ [] = λ kept done.
      nothing_started scan compiler (run_by words two after) middle (order_of r) next.step (each_recorded first middle readable did kept done) in
      record {
        before = before;
        after = after;
        history = (
          (did.step, tests_step (compile_part before.events) (test_part before.events) first r tests.untested tests.tested),
          (
            (
              kept_at,
              subst (TestsStep records_in_image (order_of r) (plan_in r) (compile_part after.events) (test_part after.events)) (sym did.ends)
                  (tests_step (compile_part after.events) (test_part after.events) middle r again.untested again.tested),
            ),
            tt,
          ),
        );
        ends = ap (λ (disk : DiskState). last_state disk after.later) did.ends ∙ next.ends;
        journal = journal;
        fresh = none;
        idle = λ kept done unplanned. sym (all_compiled after.events (again.untested unplanned)) ∙ none kept done;
      }

  -- a stop at a moment of the first run has left what the second finds
  module _ (first middle moment left last : DiskState) (did : First first middle) (is : IsMoment moment first before.later) (stop : IsLeft moment left) (next : Second left last) where
    module _ (did_test : TestsOf r before.events first) (then_test : TestsOf r after.events left) where
      two_runs : (events rest tests more : List Event) → compile_part before.events ≡ events ++ rest → test_part before.events ≡ tests ++ more → ((tests ≡ [] → ⊥) → events ≡ compile_part before.events) →
          IsHistory (world_of scan compiler) sources first (Stopped (run_by words one before) (record { events = events; tests = tests; moment = moment; disk = left }) ∷ Ran (run_by words two after) ∷ [])
      unfolding IsHistory
      two_runs events rest tests more prefix front parted = (
        (did.step, tests_step (compile_part before.events) (test_part before.events) first r did_test.untested did_test.tested),
        record { rest = rest; prefix = prefix; more = more; tested = front; parted = parted; moment = is; left = stop },
        ((next.step, tests_step (compile_part after.events) (test_part after.events) left r then_test.untested then_test.tested), tt),
      )

      spares : (name : FileName) (kept : Record) → IsAcknowledged (world_of scan compiler) name kept moment → SparesFile (world_of scan compiler) (order_of r) name kept.asked (run_by words two after) left
      unfolding AllSpare
      spares name kept here =
          (stopped_spares (world_of scan compiler) sources first (run_by words one before) (record { events = compile_part before.events; tests = test_part before.events; moment = moment; disk = left }) (Ran (run_by words two after) ∷ []) name kept
          (two_runs (compile_part before.events) [] (test_part before.events) [] (sym (append-nil (compile_part before.events))) (sym (append-nil (test_part before.events))) (λ some. refl)) here).0

    pub ran_after_stop : (old new : List Event) → IsReadable first → new ≡ (old ++ before.events) ++ after.events → TestsOf r before.events first → TestsOf r after.events left →
        RanAfterStop scan compiler words sources (record { first = one; second = two }) (record { failed = before.disk_failed; first = first; later = before.later; moment = moment }) (record { disk = left; journal = old }) (record { disk = last; journal = new })
    ran_after_stop old new readable journal tests again = record {
      before = before.events;
      after = after;
      history = two_runs tests again;
      ends = next.ends;
      journal = journal;
      spares = spares tests again;
      exact = λ done position. exact_starts scan compiler (run_by words two after) left r last next done position;
    }

-- from an empty disk each run of the program is right with its tests
pub right_from_empty : (scan : List ℕ → Finding) (compiler : Request → Exit) (sources : Sources) (steps : List HistoryStep) → IsHistory (world_of scan compiler) sources (settled_disk empty_image) steps →
    AllRight (world_of scan compiler) sources (settled_disk empty_image) steps
right_from_empty scan compiler sources steps history = all_right_from_empty (world_of scan compiler) steps sources none_in_empty_image history
