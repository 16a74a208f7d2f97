-- What runs of tests after a build did, in terms of what the disk held before it.
use Rattle.std.proofs.Common.{◌≡◌, ℕ, ◌<◌, Bool, true, false, List, [], ◌∷◌, ◌++◌, length, Option, Some, None, Result, Ok, Err, inl, inr, refl, sym, ap, subst, ◌∙◌, arith}
use Rattle.std.specs.Prelude.{slice_get, IfOk}
use Rattle.std.specs.List.{filter_map, list_all}
use Rattle.std.proofs.lemmas.Bool.{cases_Bool, false≢true}
use Rattle.std.proofs.lemmas.List.{append_assoc, append-nil}
use Rattle.base.specs.declared.file.FileName.{FileName}
use Rattle.base.specs.declared.graph.BuiltFile.{BuiltFile}
use Rattle.base.specs.declared.graph.Entry.{Entry}
use Rattle.base.specs.PresentGraph.{below}
use Rattle.base.specs.declared.child.Request.{Request}
use Rattle.base.specs.declared.child.Exit.{Exit}
use Rattle.base.specs.declared.child.Event.{Event}
use Rattle.outside.specs.Records.{Record}
use Rattle.outside.specs.Disks.{Image, Moments}
use Rattle.outside.specs.Records.{IsRecorded}
use Rattle.run_spec.specs.declared.statuses.FileStatus.{FileStatus}
use Rattle.run_spec.specs.Moves.{LawfulMoves}
use Rattle.run_spec.specs.ChildJournal.{Work, EachAfter, HasFreshTicket, since}
use Rattle.run_spec.specs.JournalParts.{compile_part, test_part}
use Rattle.run_spec.proofs.Journal.{since-added}
use Rattle.run_spec.proofs.Parts.{all_compiled}
use Rattle.run_spec.specs.Histories.{Order, work_over}
use Rattle.run_spec.specs.declared.fault.RunFault.{RunFault}
use Rattle.run_build.specs.Requests as compiling
use Rattle.run_build.specs.Ran.{built_by, is_made}
use Rattle.run_build.proofs.BorrowedFiles.{item_at, made_at}
use Rattle.run_build.specs.Building.{BuildsOver}
use Rattle.testbench_runs.specs.declared.ends.TestEnd.{TestEnd}
use Rattle.run_spec.specs.TestJournal.{TestPlan, TestSetting, LawfulTests, test_moves, AreTestsRequested}
use Rattle.run_tests.specs.Requests as testing
use Rattle.run_tests.specs.Requests.{borrowed_files}
use Rattle.run_tests.specs.Results.{test_ends}
use Rattle.run_tests.specs.Ran.{TestsRan}
use Rattle.run_tests.proofs.FreshTickets.{all_alone}
use Rattle.run_tests.specs.declared.build_and_test.Tested.{Tested}
use Rattle.run_tests.specs.Tested.{SaysTests, RanBuilt, TestsOver, setting_after}
use Rattle.run_tests.proofs.BothParts.{both_parts}

-- what is borrowed to tests is what is borrowed to compilers, for all files
pub same_borrowed : (latest_of : FileName → Option Record) (graph : List Entry) → filter_map (compiling.borrowed_at latest_of graph) (below (length graph)) ≡ borrowed_files latest_of graph
unfolding compiling.borrowed_at testing.borrowed_at
same_borrowed latest_of graph = refl

-- where all files are made the store has a record of each
pub all_recorded : (statuses : List FileStatus) (latest_of : FileName → Option Record) (graph : List Entry) → length statuses ≡ length graph → list_all is_made statuses ≡ true →
    ((position : ℕ) (status : FileStatus) → slice_get statuses position ≡ Some status → is_made status ≡ true → IsRecorded latest_of graph position) → (position : ℕ) → position < length graph → IsRecorded latest_of graph position
all_recorded statuses latest_of graph count made recorded position inside =
    let status = item_at statuses position (omega (arith, inside, count)) in
    recorded position status.0 status.1 (made_at statuses position status.0 made status.1)

-- no event is lawful
nothing_lawful : (setting : TestSetting) → LawfulTests setting []
unfolding LawfulMoves test_moves AreTestsRequested EachAfter
nothing_lawful setting = record { moves = tt; requests = tt; tickets = tt }

-- no test is started where a file isn't made
pub none_built : (tells : Type 0) (answer : Request → Exit) (setting : TestSetting) (statuses : List FileStatus) (journal : List Event) (tested : Tested) → tested.statuses ≡ statuses → tested.tests ≡ None → list_all is_made statuses ≡ false →
    RanBuilt tells answer setting statuses (Ok tested) journal journal
unfolding EachAfter
none_built tells answer setting statuses journal tested same none left = record {
  events = [];
  journal = λ t. sym (append-nil journal);
  made = λ some. absurd (some refl);
  fresh = λ t. tt;
  lawful = λ t. nothing_lawful setting;
  answered = λ t. tt;
  gives = λ t. (same, subst (λ (o : Option TestEnd). SaysTests setting (list_all is_made statuses) o []) (sym none) left);
}

module _ (tells : Type 0) (answer : Request → Exit) (setting : TestSetting) (statuses : List FileStatus) (old new : List Event) (made : list_all is_made statuses ≡ true) where
  -- the runs of tests ended by themselves
  pub all_tested : (end : TestEnd) (Recorded : List Event → Type 0) → (ran : TestsRan tells answer setting old new true (λ events. end.runs ≡ test_ends setting events) Recorded) → (tested : Tested) → tested.statuses ≡ statuses → tested.tests ≡ Some end →
      RanBuilt tells answer setting statuses (Ok tested) old new
  all_tested end Recorded ran tested same is = record {
    events = ran.events;
    journal = ran.journal;
    made = λ some. made;
    fresh = ran.fresh;
    lawful = ran.lawful;
    answered = ran.answered;
    gives = λ t. (same, subst (λ (o : Option TestEnd). SaysTests setting (list_all is_made statuses) o ran.events) (sym is) (made, ran.whole t, ran.says));
  }

  -- a fault ended them
  pub tests_failed : (fault : RunFault) (Says Recorded : List Event → Type 0) → TestsRan tells answer setting old new false Says Recorded → RanBuilt tells answer setting statuses (Err fault) old new
  tests_failed fault Says Recorded ran = record {
    events = ran.events;
    journal = ran.journal;
    made = λ some. made;
    fresh = ran.fresh;
    lawful = ran.lawful;
    answered = ran.answered;
    gives = λ t. tt;
  }

nothing : (events : List Event) → ((events ≡ [] → ⊥) → ⊥) → events ≡ []
nothing [] h = refl
nothing (event ∷ events) h = absurd (h (λ e. let no_list : ⊥ = cc in no_list))

-- what runs of tests after a build are, over either name of what was built
record Known (setting : TestSetting) (statuses : List FileStatus) (result : Result Tested RunFault) (tests : List Event) : Type 0 where
  lawful : LawfulTests setting tests
  gives : IfOk result (λ tested. (tested.statuses ≡ statuses) × SaysTests setting (list_all is_made statuses) tested.tests tests)

left_out : (one other : TestSetting) (statuses : List FileStatus) (result : Result Tested RunFault) (tests : List Event) → list_all is_made statuses ≡ false → IfOk result (λ tested. (tested.statuses ≡ statuses) × SaysTests one (list_all is_made statuses) tested.tests tests) →
    IfOk result (λ tested. (tested.statuses ≡ statuses) × SaysTests other (list_all is_made statuses) tested.tests tests)
left_out one other statuses (Err why) tests left gives = tt
left_out one other statuses (Ok tested) tests left gives = (gives.0, by_tests tested.tests gives.1) where
  by_tests : (o : Option TestEnd) → SaysTests one (list_all is_made statuses) o tests → SaysTests other (list_all is_made statuses) o tests
  by_tests None says = says
  by_tests (Some end) says = absurd (false≢true (sym left ∙ says.0))

-- an answer, with its type
abbrev said : List FileStatus → Result (List FileStatus) RunFault
said statuses = Ok statuses

abbrev failed_by : RunFault → Result Tested RunFault
failed_by fault = Err fault

said_after : (order : Order) (plan : TestPlan) (work : Work) (compiled tests : List Event) (statuses : List FileStatus) (result : Result Tested RunFault) →
    IfOk result (λ tested. (tested.statuses ≡ statuses) × SaysTests (setting_after order plan work compiled) (list_all is_made statuses) tested.tests tests) →
    IfOk result (λ tested. (said statuses ≡ said tested.statuses) × SaysTests (setting_after order plan work compiled) (list_all is_made tested.statuses) tested.tests tests)
said_after order plan work compiled tests statuses (Err why) gives = tt
said_after order plan work compiled tests statuses (Ok tested) gives = (
  ap said (sym gives.0),
  subst (λ (m : List FileStatus). SaysTests (setting_after order plan work compiled) (list_all is_made m) tested.tests tests) (sym gives.0) gives.1,
)

module _ (records_of : Image → List Record) (answer : Request → Exit) (order : Order) (plan : TestPlan) (failed : Bool) (first last : Moments) (old middle new : List Event) where
  abbrev work : Work
  work = work_over records_of order first.now

  -- a build that ended by itself, and then its tests: the events of its compilers are those of the build
  after_build : (statuses : List FileStatus) (result : Result Tested RunFault) (files : List BuiltFile) → middle ≡ old ++ since old middle → BuildsOver records_of answer order (Ok statuses) failed first last (since old middle) →
      (list_all is_made statuses ≡ true → files ≡ built_by work (since old middle)) → (tells : Type 0) → tells → RanBuilt tells answer (record { plan = plan; built = files; slots = order.slots }) statuses result middle new →
      (over : TestsOver records_of answer order plan result failed first last (since old new)) × (over.compiled ≡ since old middle)
  after_build statuses result files follows builds borrowed tells t ran =
      let compiled : List Event = since old middle in
      let tests : List Event = ran.events in
      let before : TestSetting = record { plan = plan; built = files; slots = order.slots } in
      let setting : TestSetting = setting_after order plan work compiled in
      let events : since old new ≡ compiled ++ tests =
      ap (since old) (ran.journal t ∙ ap (λ (l : List Event). l ++ tests) follows ∙ append_assoc old compiled tests) ∙ since-added old (compiled ++ tests) in
      let known : Known setting statuses result tests = elim (cases_Bool (list_all is_made statuses)) [
        | inl made ↦ subst (λ (built : List BuiltFile). Known (record { plan = plan; built = built; slots = order.slots }) statuses result tests) (borrowed made) (record { lawful = ran.lawful t; gives = ran.gives t })
        | inr left ↦
            let none : tests ≡ [] = nothing tests (λ some. false≢true (sym left ∙ ran.made some)) in
            record {
              lawful = subst (LawfulTests setting) (sym none) (nothing_lawful setting);
              gives = left_out before setting statuses result tests left (ran.gives t);
            }
      ] in
      let parts = both_parts work setting compiled tests builds.lawful known.lawful (all_alone old compiled tests (subst (λ (l : List Event). EachAfter HasFreshTicket l tests) follows (ran.fresh t))) in (
        record {
          compiled = compiled;
          tests = tests;
          parted = events;
          compilers = ap compile_part events ∙ parts.0;
          simulators = ap test_part events ∙ parts.1;
          build = Ok statuses;
          builds = builds;
          made = λ some. ap (list_all is_made) (sym builds.statuses) ∙ ran.made some;
          lawful = known.lawful;
          answered = ran.answered t;
          gives = said_after order plan work compiled tests statuses result known.gives;
          stops = λ fault is. let no : ⊥ = cc in absurd no;
        },
        refl,
      )

  pub tested_after : (statuses : List FileStatus) (result : Result Tested RunFault) (files : List BuiltFile) → middle ≡ old ++ since old middle → BuildsOver records_of answer order (Ok statuses) failed first last (since old middle) →
      (list_all is_made statuses ≡ true → files ≡ built_by work (since old middle)) → (tells : Type 0) → tells → RanBuilt tells answer (record { plan = plan; built = files; slots = order.slots }) statuses result middle new →
      TestsOver records_of answer order plan result failed first last (since old new)
  tested_after statuses result files follows builds borrowed tells t ran = (after_build statuses result files follows builds borrowed tells t ran).0

  pub compilers_after : (statuses : List FileStatus) (result : Result Tested RunFault) (files : List BuiltFile) → middle ≡ old ++ since old middle → BuildsOver records_of answer order (Ok statuses) failed first last (since old middle) →
      (list_all is_made statuses ≡ true → files ≡ built_by work (since old middle)) → (tells : Type 0) → tells → RanBuilt tells answer (record { plan = plan; built = files; slots = order.slots }) statuses result middle new →
      compile_part (since old new) ≡ since old middle
  compilers_after statuses result files follows builds borrowed tells t ran =
      let after = after_build statuses result files follows builds borrowed tells t ran in
      after.0.compilers ∙ after.1

  -- a build that a fault ended
  pub build_failed : (fault : RunFault) → BuildsOver records_of answer order (Err fault) failed first last (since old new) → test_part (since old new) ≡ [] → TestsOver records_of answer order plan (Err fault) failed first last (since old new)
  unfolding EachAfter
  build_failed fault builds none =
      let compiled : List Event = since old new in
      record {
        compiled = compiled;
        tests = [];
        parted = sym (append-nil compiled);
        compilers = all_compiled compiled none;
        simulators = none;
        build = Err fault;
        builds = builds;
        made = λ some. absurd (some refl);
        lawful = nothing_lawful (setting_after order plan work compiled);
        answered = tt;
        gives = tt;
        stops = λ other is. (let same : fault ≡ other = cc in ap failed_by same, refl);
      }
