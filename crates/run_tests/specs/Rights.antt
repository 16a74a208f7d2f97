-- What holds of the compilers and of the tests at each step of a history.
use Rattle.std.specs.Prelude.{◌≡◌, ℕ, List, [], ◌∷◌, ◌++◌, Option, Some, None}
use Rattle.base.specs.declared.child.Request.{Request}
use Rattle.base.specs.declared.child.Exit.{Exit}
use Rattle.base.specs.declared.child.Event.{Event}
use Rattle.base.specs.declared.child.Event.TheVariants.{Started}
use Rattle.outside.specs.Disks.{DiskState}
use Rattle.outside.specs.Commits.{last_state}
use Rattle.run_spec.specs.Faithful.{IsFaithfulDisk}
use Rattle.run_spec.specs.Histories.{Sources, Order, World, ProgramRun}
use Rattle.run_laws.specs.Rights.{IsRightStep}
use Rattle.run_spec.specs.TestJournal.{TestPlan, TestSetting, LawfulTests, next_run, progress_of_tests, test_request_at}
use Rattle.run_tests.specs.Libraries.{libraries}
use Rattle.run_tests.specs.Histories.{HistoryStep, Edited, Ran, Stopped}

-- what tests of a plan work on where a clean build of the order's graph made all files
abbrev pub clean_setting : (compiler : Request → Exit) → Order → TestPlan → TestSetting
clean_setting compiler order plan = record { plan = plan; built = libraries compiler order.graph; slots = order.slots }

-- Whatever prefix of the tests a stop leaves is lawful over the libraries of a clean build of these sources, and each start is
-- that of the next run in order, over exactly these libraries.
pub record AreRightTests (compiler : Request → Exit) (order : Order) (plan : TestPlan) (tests : List Event) : Type 0 where
  pub lawful : (before rest : List Event) → tests ≡ before ++ rest → LawfulTests (clean_setting compiler order plan) before
  pub asked : (before rest : List Event) (ticket : ℕ) (request : Request) → tests ≡ before ++ Started ticket request ∷ rest →
      (position : ℕ) × (next_run (clean_setting compiler order plan) (progress_of_tests (clean_setting compiler order plan) before) ≡ Some position)
      × (test_request_at (clean_setting compiler order plan) position ≡ Some request)

-- The tests of a run are right where words and sources give an order and a plan. Where they give none, no test is started.
abbrev pub IsRightTesting : (compiler : Request → Exit) → Option Order → Option TestPlan → (tests : List Event) → Type 0
IsRightTesting compiler None plan tests = tests ≡ []
IsRightTesting compiler (Some order) None tests = tests ≡ []
IsRightTesting compiler (Some order) (Some plan) tests = AreRightTests compiler order plan tests

-- what holds of the tests of a run that words and sources give
abbrev pub HasRightTests : World → Sources → ProgramRun → (tests : List Event) → Type 0
HasRightTests world sources run tests = IsRightTesting world.compiler (world.reading run.words sources) (world.plan run.words sources) tests

-- what holds of a run and of its tests
abbrev pub IsRight : World → Sources → ProgramRun → DiskState → Type 0
IsRight world sources run first = IsRightStep world (world.reading run.words sources) run first × HasRightTests world sources run run.tests

-- Each run of a history is right with its tests, also one that is stopped, and the disk at its end has true records alone.
unfoldable pub AllRight : World → Sources → DiskState → List HistoryStep → Type 0
AllRight world sources disk [] = IsFaithfulDisk world.compiler world.records_of disk
AllRight world sources disk (Edited new ∷ steps) = AllRight world new disk steps
AllRight world sources disk (Ran run ∷ steps) = IsRight world sources run disk × AllRight world sources (last_state disk run.later) steps
AllRight world sources disk (Stopped run stop ∷ steps) = IsRight world sources run disk × HasRightTests world sources run stop.tests × AllRight world sources stop.disk steps
