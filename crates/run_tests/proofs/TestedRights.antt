-- The tests of a run from a disk of true records are right.
use Rattle.std.proofs.Common.{◌≡◌, List, [], ◌∷◌, ◌++◌, Option, Some, None, refl, sym, subst, ◌∙◌, inl, inr}
use Rattle.std.proofs.lemmas.Option.{option_and_then_some}
use Rattle.base.specs.declared.graph.BuiltFile.{BuiltFile}
use Rattle.base.specs.declared.child.Request.{Request}
use Rattle.base.specs.declared.child.Exit.{Exit}
use Rattle.base.specs.declared.child.Event.{Event}
use Rattle.base.specs.declared.child.Event.TheVariants.{Started}
use Rattle.base.specs.Graphs.{IsGraph}
use Rattle.outside.specs.Records.{Record}
use Rattle.outside.specs.Disks.{DiskState, Image}
use Rattle.run_spec.specs.Moves.{SchedulerState, empty_schedule, after_move, LawfulMoves}
use Rattle.run_spec.specs.ChildJournal.{Work, EachAfter, HasFreshTicket, Lawful, Answered}
use Rattle.run_spec.specs.Faithful.{IsFaithfulDisk}
use Rattle.run_spec.proofs.Prefixes.{lawful_none}
use Rattle.run_spec.specs.Histories.{Sources, Order, World, ProgramRun, IsIdleRun, RunStep, IsReadable, work_over}
use Rattle.run_laws.proofs.RightRuns.{run_clean, run_right}
use Rattle.run_build.specs.Ran.{built_by}
use Rattle.run_spec.specs.TestJournal.{TestPlan, TestSetting, TestProgress, LawfulTests, AreTestsRequested, IsTestRequested, after_test, after_tests, progress_of_tests, empty_tests, next_run, test_workload, test_move, test_moves, test_request_at}
use Rattle.run_tests.specs.Libraries.{libraries}
use Rattle.run_tests.proofs.CleanLibraries.{built_clean}
use Rattle.run_tests.specs.Histories.{HasTested, IsRun, TestsStep}
use Rattle.run_tests.specs.Rights.{AreRightTests, IsRight, IsRightTesting, clean_setting}

-- no event is before the first
nothing_before : (before rest : List Event) → [] ≡ before ++ rest → before ≡ []
nothing_before [] rest e = refl
nothing_before (event ∷ before) rest e = let nothing : ⊥ = cc in absurd nothing

not_empty : (event : Event) (events : List Event) → event ∷ events ≡ [] → ⊥
not_empty event events e = cc

-- the moves, the requests and the tickets of a prefix
moves_prefix : (setting : TestSetting) (progress : TestProgress) (schedule : SchedulerState) (xs ys : List Event) → LawfulMoves (test_workload setting) schedule (test_moves setting progress (xs ++ ys)) → LawfulMoves (test_workload setting) schedule (test_moves setting progress xs)
unfolding LawfulMoves test_moves
moves_prefix setting progress schedule [] ys lawful = tt
moves_prefix setting progress schedule (x ∷ xs) ys lawful = (lawful.0, moves_prefix setting (after_test setting progress x) (after_move (test_workload setting) schedule (test_move setting progress x)) xs ys lawful.1)

requests_prefix : (setting : TestSetting) (progress : TestProgress) (xs ys : List Event) → AreTestsRequested setting progress (xs ++ ys) → AreTestsRequested setting progress xs
unfolding AreTestsRequested
requests_prefix setting progress [] ys requested = tt
requests_prefix setting progress (x ∷ xs) ys requested = (requested.0, requests_prefix setting (after_test setting progress x) xs ys requested.1)

tickets_prefix : (before xs ys : List Event) → EachAfter HasFreshTicket before (xs ++ ys) → EachAfter HasFreshTicket before xs
unfolding EachAfter
tickets_prefix before [] ys fresh = tt
tickets_prefix before (x ∷ xs) ys fresh = (fresh.0, tickets_prefix (before ++ x ∷ []) xs ys fresh.1)

-- a prefix of lawful tests is lawful
pub tests_prefix : (setting : TestSetting) (xs ys : List Event) → LawfulTests setting (xs ++ ys) → LawfulTests setting xs
tests_prefix setting xs ys lawful = record {
  moves = moves_prefix setting empty_tests empty_schedule xs ys lawful.moves;
  requests = requests_prefix setting empty_tests xs ys lawful.requests;
  tickets = tickets_prefix [] xs ys lawful.tickets;
}

-- an empty list of events is lawful
pub no_tests : (setting : TestSetting) → LawfulTests setting []
unfolding LawfulMoves test_moves AreTestsRequested EachAfter
no_tests setting = record { moves = tt; requests = tt; tickets = tt }

-- each start is of the run that is next after the events before it
requested_at : (setting : TestSetting) (progress : TestProgress) (xs : List Event) (y : Event) (ys : List Event) → AreTestsRequested setting progress (xs ++ y ∷ ys) → IsTestRequested setting (after_tests setting progress xs) y
unfolding AreTestsRequested after_tests
requested_at setting progress [] y ys requested = requested.0
requested_at setting progress (x ∷ xs) y ys requested = requested_at setting (after_test setting progress x) xs y ys requested.1

-- tests that are lawful over the libraries of a clean build are right
pub lawful_right : (compiler : Request → Exit) (order : Order) (plan : TestPlan) (tests : List Event) → LawfulTests (clean_setting compiler order plan) tests → AreRightTests compiler order plan tests
lawful_right compiler order plan tests lawful =
    let setting : TestSetting = clean_setting compiler order plan in
    record {
      lawful = λ before rest e. tests_prefix setting before rest (subst (LawfulTests setting) e lawful);
      asked = λ before rest ticket request e.
          option_and_then_some (test_request_at setting) (next_run setting (progress_of_tests setting before)) request
          (requested_at setting empty_tests before (Started ticket request) rest (subst (AreTestsRequested setting empty_tests) e lawful.requests))
          (λ position next asked. (position, next, asked));
    }

-- what a stop leaves of right tests is right
pub stop_right : (compiler : Request → Exit) (order : Option Order) (plan : Option TestPlan) (tests before rest : List Event) → tests ≡ before ++ rest → IsRightTesting compiler order plan tests → IsRightTesting compiler order plan before
stop_right compiler None plan tests before rest e none = nothing_before before rest (sym none ∙ e)
stop_right compiler (Some order) None tests before rest e none = nothing_before before rest (sym none ∙ e)
stop_right compiler (Some order) (Some plan) tests before rest e right = lawful_right compiler order plan before (right.lawful before rest e)

-- a world of this compiler, over these records
abbrev world_of : (Request → Exit) → (Image → List Record) → World
world_of compiler records_of = record { compiler = compiler; records_of = records_of; reading = λ words sources. None; plan = λ words sources. None }

-- from a disk of true records the tests that follow a lawful build are lawful over the libraries of a clean build
tests_lawful : (compiler : Request → Exit) (records_of : Image → List Record) (order : Order) (plan : TestPlan) (first : DiskState) (compiled tests : List Event) → IsReadable first → IsFaithfulDisk compiler records_of first → IsGraph order.graph →
    Lawful (work_over records_of order first) compiled → Answered compiler compiled → HasTested order plan (work_over records_of order first) compiled tests → LawfulTests (clean_setting compiler order plan) tests
tests_lawful compiler records_of order plan first compiled [] readable faithful graph lawful answered tested = no_tests (clean_setting compiler order plan)
tests_lawful compiler records_of order plan first compiled (event ∷ tests) readable faithful graph lawful answered tested =
    let work : Work = work_over records_of order first in
    let built : built_by work compiled ≡ libraries compiler order.graph =
    built_clean compiler work graph (run_clean (world_of compiler records_of) order first graph readable faithful) compiled lawful answered (tested.made (not_empty event tests)) in
    subst (λ (files : List BuiltFile). LawfulTests (record { plan = plan; built = files; slots = order.slots }) (event ∷ tests)) built tested.lawful

-- so they are right
pub tests_right : (compiler : Request → Exit) (records_of : Image → List Record) (order : Order) (plan : TestPlan) (first : DiskState) (compiled tests : List Event) → IsReadable first → IsFaithfulDisk compiler records_of first → IsGraph order.graph →
    Lawful (work_over records_of order first) compiled → Answered compiler compiled → HasTested order plan (work_over records_of order first) compiled tests → AreRightTests compiler order plan tests
tests_right compiler records_of order plan first compiled tests readable faithful graph lawful answered tested =
    lawful_right compiler order plan tests (tests_lawful compiler records_of order plan first compiled tests readable faithful graph lawful answered tested)

-- a build without events holds the answers
nothing_answered : (compiler : Request → Exit) → Answered compiler []
unfolding EachAfter
nothing_answered compiler = tt

module _ (world : World) where
  abbrev Faithful : DiskState → Type 0
  Faithful disk = IsFaithfulDisk world.compiler world.records_of disk

  -- tests of a run that started no compiler are right
  idle_tests : (order : Order) (plan : TestPlan) (run : ProgramRun) (first : DiskState) → IsReadable first → Faithful first → IsIdleRun run → (tests : List Event) →
      HasTested order plan (work_over world.records_of order first) run.events tests → AreRightTests world.compiler order plan tests
  idle_tests order plan run first readable faithful idle [] tested = lawful_right world.compiler order plan [] (no_tests (clean_setting world.compiler order plan))
  idle_tests order plan run first readable faithful idle (event ∷ tests) tested =
      let work : Work = work_over world.records_of order first in
      tests_right world.compiler world.records_of order plan first run.events (event ∷ tests) readable faithful (tested.graph (not_empty event tests))
      (subst (Lawful work) (sym idle.events) (lawful_none work)) (subst (Answered world.compiler) (sym idle.events) (nothing_answered world.compiler)) tested

  -- the tests of a run are right
  testing_right : (order : Option Order) (plan : Option TestPlan) (run : ProgramRun) (first : DiskState) → IsReadable first → Faithful first → RunStep world order run first →
      TestsStep world.records_of order plan run.events run.tests first → IsRightTesting world.compiler order plan run.tests
  testing_right None plan run first readable faithful step none = none
  testing_right (Some order) None run first readable faithful step none = none
  testing_right (Some order) (Some plan) run first readable faithful (inl idle) tested = idle_tests order plan run first readable faithful idle run.tests tested
  testing_right (Some order) (Some plan) run first readable faithful (inr build) tested =
      tests_right world.compiler world.records_of order plan first run.events run.tests readable faithful build.graph build.lawful build.answered tested

  -- a run is right with its tests
  pub tested_right : (sources : Sources) (run : ProgramRun) (first : DiskState) → IsReadable first → Faithful first → IsRun world sources run first → IsRight world sources run first
  tested_right sources run first readable faithful step =
      let order : Option Order = world.reading run.words sources in
      (run_right world order run first readable faithful step.0, testing_right order (world.plan run.words sources) run first readable faithful step.0 step.1)
