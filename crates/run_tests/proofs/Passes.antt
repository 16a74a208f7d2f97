-- What runs of tests have recorded, event after event.
use Rattle.std.proofs.Common.{◌≡◌, ℕ, ◌≤◌, ◌+◌, Bool, true, false, List, [], ◌∷◌, ◌++◌, cond, length, take, Option, Some, None, Err, refl, sym, ap, subst, ◌∙◌, arith}
use Rattle.std.specs.Prelude.{IfSome, is_some, slice_get}
use Rattle.std.specs.List.{flat_map}
use Rattle.std.specs.Option.{option_map_or}
use Rattle.std.proofs.lemmas.Bool.{false≢true}
use Rattle.std.proofs.lemmas.Grind.{flat_map-append}
use Rattle.std.proofs.lemmas.List.{append_assoc, append-nil, length-append, take-append-le, take_all}
use Rattle.base.specs.declared.child.Request.{Request}
use Rattle.base.specs.declared.child.Exit.{Exit}
use Rattle.base.specs.declared.child.Event.{Event}
use Rattle.base.specs.declared.child.Event.TheVariants.{Started, Ended, Gone}
use Rattle.outside.specs.declared.procs.WaitFault.{WaitFault}
use Rattle.outside.specs.declared.procs.WaitFault.TheVariants as wait
use Rattle.outside.specs.Children.{end_event}
use Rattle.testbench_runs.specs.declared.runs.TestRun.{TestRun}
use Rattle.testbench_runs.specs.Verdicts.{is_passed}
use Rattle.passes_spec.specs.Passes.{Pass, pass_of_end}
use Rattle.run_spec.specs.ChildJournal.{EachAfter}
use Rattle.run_spec.specs.Moves.{position_of}
use Rattle.run_spec.specs.TestJournal.{TestSetting, TestExit, exits_of, new_exits, passed_at, has_passed, progress_of_tests, after_tests}
use Rattle.run_spec.proofs.Journal.{EachAfter-append}
use Rattle.run_spec.proofs.Waiting.{each_weaker}
use Rattle.run_tests.specs.Recording.{AreRecorded, ComesAfterPasses, WaitsForPasses, new_passes, passes_of_exit, passes_of_run}
use Rattle.run_spec.specs.declared.fault.RunFault.{RunFault}
use Rattle.testbench_runs.specs.declared.ends.TheConstants.{SHOWN_LIMIT}
use Rattle.run_tests.specs.UnderWay.{IsPassOver, passes_told, told_position}
use Rattle.run_tests.proofs.Found.{exits_then}

-- what holds of a position, where no fault is noted, holds of one that is told
pub if_told : (P : ℕ → Type 0) (passed : Bool) (first_fault : Option RunFault) (position : ℕ) (told : Option ℕ) → told ≡ told_position passed first_fault position → (first_fault ≡ None → P position) → IfSome told P
if_told P true None position told is holds = subst (λ (o : Option ℕ). IfSome o P) (sym is) (holds refl)
if_told P false None position told is holds = subst (λ (o : Option ℕ). IfSome o P) (sym is) tt
if_told P true (Some fault) position told is holds = subst (λ (o : Option ℕ). IfSome o P) (sym is) tt
if_told P false (Some fault) position told is holds = subst (λ (o : Option ℕ). IfSome o P) (sym is) tt

-- nothing is recorded before the first event
pub first_recorded : (setting : TestSetting) (faulty : Bool) (passes : List Pass) → AreRecorded setting [] faulty passes passes
unfolding after_tests EachAfter
first_recorded setting faulty passes = record {
  count = 0;
  within = omega arith;
  are = sym (append-nil passes);
  all = λ none. refl;
  waits = tt;
}

module _ (setting : TestSetting) (events : List Event) where
  abbrev passes : List Pass
  passes = new_passes setting events

  -- the passes after one more event
  passes_then : (event : Event) → new_passes setting (events ++ event ∷ []) ≡ passes ++ flat_map (passes_of_exit setting) (new_exits (progress_of_tests setting events) event)
  passes_then event = ap (flat_map (passes_of_exit setting)) (exits_then setting events event) ∙ flat_map-append (passes_of_exit setting) (progress_of_tests setting events).ends (new_exits (progress_of_tests setting events) event)

  started_passes : (ticket : ℕ) (request : Request) → new_passes setting (events ++ Started ticket request ∷ []) ≡ passes
  started_passes ticket request = passes_then (Started ticket request) ∙ append-nil passes

  gone_passes : (ticket : ℕ) → new_passes setting (events ++ Gone ticket ∷ []) ≡ passes
  gone_passes ticket = passes_then (Gone ticket) ∙ append-nil passes

  flat_one : (end : TestExit) → flat_map (passes_of_exit setting) (end ∷ []) ≡ passes_of_exit setting end
  flat_one end = append-nil (passes_of_exit setting end)

  -- the passes after the end of the run at a position
  ended_passes : (ticket position : ℕ) (exit : Exit) → position_of ticket (progress_of_tests setting events).schedule.running ≡ Some position
      → new_passes setting (events ++ Ended ticket exit ∷ []) ≡ passes ++ passes_of_run setting (slice_get setting.plan.runs position) exit
  ended_passes ticket position exit there =
      passes_then (Ended ticket exit)
      ∙ ap (λ (o : Option ℕ). passes ++ flat_map (passes_of_exit setting) (exits_of o exit)) there
      ∙ ap (λ (l : List Pass). passes ++ l) (flat_one (record { position = position; exit = exit }))

  if_passed : (passed : Bool) (pass : Pass) → passed ≡ true → cond passed (pass ∷ []) [] ≡ pass ∷ []
  if_passed passed pass is = ap (λ (b : Bool). cond b (pass ∷ []) []) is

  if_not : (passed : Bool) (pass : Pass) → passed ≡ false → cond passed (pass ∷ []) [] ≡ []
  if_not passed pass is = ap (λ (b : Bool). cond b (pass ∷ []) []) is

  -- a run that passed adds its pass, and another run adds none
  pub passed_told : (ticket position : ℕ) (run : TestRun) (exit : Exit) → position_of ticket (progress_of_tests setting events).schedule.running ≡ Some position → slice_get setting.plan.runs position ≡ Some run
      → passed_at setting (position_of ticket (progress_of_tests setting events).schedule.running) exit ≡ true → new_passes setting (events ++ Ended ticket exit ∷ []) ≡ passes ++ passes_told setting exit (Some position)
  passed_told ticket position run exit there run_is passed =
      let is : is_passed run exit ≡ true = sym (ap (λ (o : Option ℕ). passed_at setting o exit) there ∙ ap (λ (o : Option TestRun). has_passed o exit) run_is) ∙ passed in
      ended_passes ticket position exit there
      ∙ ap (λ (o : Option TestRun). passes ++ passes_of_run setting o exit) run_is
      ∙ ap (λ (l : List Pass). passes ++ l) (if_passed (is_passed run exit) (pass_of_end run setting.plan.simulator setting.built exit) is)
      ∙ ap (λ (o : Option TestRun). passes ++ option_map_or (λ run. pass_of_end run setting.plan.simulator setting.built exit ∷ []) o []) (sym run_is)

  pub failed_told : (ticket position : ℕ) (run : TestRun) (exit : Exit) → position_of ticket (progress_of_tests setting events).schedule.running ≡ Some position → slice_get setting.plan.runs position ≡ Some run
      → passed_at setting (position_of ticket (progress_of_tests setting events).schedule.running) exit ≡ false → new_passes setting (events ++ Ended ticket exit ∷ []) ≡ passes ++ passes_told setting exit None
  failed_told ticket position run exit there run_is passed =
      let is : is_passed run exit ≡ false = sym (ap (λ (o : Option ℕ). passed_at setting o exit) there ∙ ap (λ (o : Option TestRun). has_passed o exit) run_is) ∙ passed in
      ended_passes ticket position exit there
      ∙ ap (λ (o : Option TestRun). passes ++ passes_of_run setting o exit) run_is
      ∙ ap (λ (l : List Pass). passes ++ l) (if_not (is_passed run exit) (pass_of_end run setting.plan.simulator setting.built exit) is)

  -- the end of a run by whether it passed, where no fault is noted
  pub told_by : (passed : Bool) (first_fault : Option RunFault) (ticket position : ℕ) (run : TestRun) (exit : Exit) → is_some first_fault ≡ false → position_of ticket (progress_of_tests setting events).schedule.running ≡ Some position
      → slice_get setting.plan.runs position ≡ Some run → passed_at setting (position_of ticket (progress_of_tests setting events).schedule.running) exit ≡ passed
      → new_passes setting (events ++ Ended ticket exit ∷ []) ≡ passes ++ passes_told setting exit (told_position passed first_fault position)
  told_by true None ticket position run exit none there run_is passed = passed_told ticket position run exit there run_is passed
  told_by false None ticket position run exit none there run_is passed = failed_told ticket position run exit there run_is passed
  told_by passed (Some fault) ticket position run exit none there run_is is = absurd (false≢true (sym none))

  after_fewer : (count more : ℕ) → count ≤ more → (before : List Event) (event : Event) → ComesAfterPasses setting count before event → ComesAfterPasses setting more before event
  after_fewer count more le before (Started ticket request) h = omega arith
  after_fewer count more le before (Ended ticket exit) h = tt
  after_fewer count more le before (Gone ticket) h = tt

  waits_then : (count more : ℕ) (event : Event) → count ≤ more → WaitsForPasses setting count events → ComesAfterPasses setting more events event → WaitsForPasses setting more (events ++ event ∷ [])
  unfolding EachAfter
  waits_then count more event le waits here =
      EachAfter-append (ComesAfterPasses setting more) [] events (event ∷ []) (each_weaker (ComesAfterPasses setting count) (ComesAfterPasses setting more) (after_fewer count more le) [] events waits) (here, tt)

  module _ (faulty : Bool) (before now : List Pass) (is : AreRecorded setting events faulty before now) where
    -- a fault is noted
    pub faulty_recorded : AreRecorded setting events true before now
    faulty_recorded = record {
      count = is.count;
      within = is.within;
      are = is.are;
      all = λ none. absurd (false≢true (sym none));
      waits = is.waits;
    }

    -- after one more event, nothing more is recorded
    module _ (event : Event) (added : List Pass) (grown : new_passes setting (events ++ event ∷ []) ≡ passes ++ added) (here : ComesAfterPasses setting is.count events event) where
      still_taken : take is.count (new_passes setting (events ++ event ∷ [])) ≡ take is.count passes
      still_taken = ap (take is.count) grown ∙ take-append-le is.count passes added is.within

      still_within : is.count ≤ length (new_passes setting (events ++ event ∷ []))
      still_within = (let more : length (new_passes setting (events ++ event ∷ [])) ≡ length passes + length added = ap length grown ∙ length-append passes added in let within = is.within in omega arith)

      -- where a fault is noted
      left_recorded : AreRecorded setting (events ++ event ∷ []) true before now
      left_recorded = record {
        count = is.count;
        within = still_within;
        are = is.are ∙ ap (λ (l : List Pass). before ++ l) (sym still_taken);
        all = λ none. absurd (false≢true (sym none));
        waits = waits_then is.count is.count event (omega arith) is.waits here;
      }

    -- after one more event, where all passes that it added are recorded
    module _ (sound : faulty ≡ false) (event : Event) (added now' : List Pass) (grown : new_passes setting (events ++ event ∷ []) ≡ passes ++ added) (here : ComesAfterPasses setting (length passes + length added) events event) (told : now' ≡ now ++ added) where
      total : length (new_passes setting (events ++ event ∷ [])) ≡ length passes + length added
      total = ap length grown ∙ length-append passes added

      all_before : now ≡ before ++ passes
      all_before = is.are ∙ ap (λ (n : ℕ). before ++ take n passes) (is.all sound) ∙ ap (λ (l : List Pass). before ++ l) (take_all (length passes) passes (omega arith))

      more_recorded : AreRecorded setting (events ++ event ∷ []) false before now'
      more_recorded = record {
        count = length passes + length added;
        within = (let t = total in omega arith);
        are = told ∙ ap (λ (l : List Pass). l ++ added) all_before ∙ append_assoc before passes added ∙ ap (λ (l : List Pass). before ++ l) (sym (take_all (length passes + length added) (new_passes setting (events ++ event ∷ [])) (let t = total in omega arith) ∙ grown));
        all = λ none. sym total;
        waits = waits_then is.count (length passes + length added) event (let within = is.within in omega arith) is.waits here;
      }

    -- a run is started
    pub started_recorded : faulty ≡ false → (ticket : ℕ) (request : Request) → AreRecorded setting (events ++ Started ticket request ∷ []) false before now
    started_recorded sound ticket request = more_recorded sound (Started ticket request) [] now (started_passes ticket request ∙ sym (append-nil passes)) (omega arith) (sym (append-nil now))

    -- the end of a run is lost
    gone_recorded : (ticket : ℕ) → AreRecorded setting (events ++ Gone ticket ∷ []) true before now
    gone_recorded ticket = left_recorded (Gone ticket) [] (gone_passes ticket ∙ sym (append-nil passes)) tt

    pub lost_recorded : (faulty' : Bool) (fault : WaitFault) → faulty' ≡ true → AreRecorded setting (events ++ end_event (Err fault) ∷ []) faulty' before now
    lost_recorded faulty' (wait.NoMemory ticket) is_faulty = subst (λ (b : Bool). AreRecorded setting (events ++ Gone ticket ∷ []) b before now) (sym is_faulty) (gone_recorded ticket)
    lost_recorded faulty' (wait.Lost ticket) is_faulty = subst (λ (b : Bool). AreRecorded setting (events ++ Gone ticket ∷ []) b before now) (sym is_faulty) (gone_recorded ticket)

    -- a run has ended, and its pass isn't recorded for a fault
    ended_unrecorded : (ticket : ℕ) (exit : Exit) → AreRecorded setting (events ++ Ended ticket exit ∷ []) true before now
    ended_unrecorded ticket exit = left_recorded (Ended ticket exit) (flat_map (passes_of_exit setting) (new_exits (progress_of_tests setting events) (Ended ticket exit))) (passes_then (Ended ticket exit)) tt

    -- a run has ended, and its pass, if any, is recorded
    ended_recorded : faulty ≡ false → (ticket : ℕ) (exit : Exit) (added now' : List Pass) → new_passes setting (events ++ Ended ticket exit ∷ []) ≡ passes ++ added → now' ≡ now ++ added → AreRecorded setting (events ++ Ended ticket exit ∷ []) false before now'
    ended_recorded sound ticket exit added now' grown told = more_recorded sound (Ended ticket exit) added now' grown tt told

    -- a run has ended: its pass, if any, is recorded, or there is a fault
    pub ended_either : (faulty' : Bool) (ticket : ℕ) (exit : Exit) (added now' : List Pass) → (faulty' ≡ false → faulty ≡ false) → (faulty' ≡ false → new_passes setting (events ++ Ended ticket exit ∷ []) ≡ passes ++ added) → (faulty' ≡ false → now' ≡ now ++ added)
        → (faulty' ≡ true → now' ≡ now) → AreRecorded setting (events ++ Ended ticket exit ∷ []) faulty' before now'
    ended_either false ticket exit added now' sound grown told kept = ended_recorded (sound refl) ticket exit added now' (grown refl) (told refl)
    ended_either true ticket exit added now' sound grown told kept = subst (AreRecorded setting (events ++ Ended ticket exit ∷ []) true before) (sym (kept refl)) (ended_unrecorded ticket exit)

-- the pass of the run at a position that passed, by its output
pub told_pass : (setting : TestSetting) (pass_with : TestRun → List ℕ → Pass) (position : ℕ) (run : TestRun) (exit : Exit) (output : List ℕ) → IsPassOver pass_with setting.plan.simulator setting.built → slice_get setting.plan.runs position ≡ Some run → output ≡ take SHOWN_LIMIT exit.output
    → pass_with run output ∷ [] ≡ passes_told setting exit (Some position)
told_pass setting pass_with position run exit output over run_is shown =
    ap (λ (l : List ℕ). pass_with run l ∷ []) shown ∙ ap (λ (p : Pass). p ∷ []) (over run (take SHOWN_LIMIT exit.output))
    ∙ ap (λ (o : Option TestRun). option_map_or (λ run. pass_of_end run setting.plan.simulator setting.built exit ∷ []) o []) (sym run_is)
