-- Runs of tests that are under way: the events so far, the scheduler, and the ends of the runs so far.
use Rattle.std.specs.Prelude.{◌≡◌, ℕ, Bool, true, false, List, [], ◌∷◌, ◌++◌, slice_get, Option, Some, None, IfSome}
use Rattle.std.specs.Option.{option_map_or}
use Rattle.std.specs.List.{list_any}
use Rattle.base.specs.declared.child.Request.{Request}
use Rattle.base.specs.declared.child.Exit.{Exit}
use Rattle.base.specs.declared.child.Event.{Event}
use Rattle.base.specs.declared.child.Event.TheVariants.{Started, Ended, Gone}
use Rattle.base.specs.declared.graph.BuiltFile.{BuiltFile}
use Rattle.outside.specs.Children.{started_with}
use Rattle.run_spec.specs.Moves.{empty_schedule, LawfulMoves, GreedyMoves}
use Rattle.run_spec.specs.ChildJournal.{EachAfter, HasFreshTicket, is_gone}
use Rattle.testbench_runs.specs.declared.runs.TestRun.{TestRun}
use Rattle.testbench_runs.specs.declared.ends.RunEnd.{RunEnd}
use Rattle.run_spec.specs.TestJournal.{TestSetting, test_workload, test_moves, empty_tests, progress_of_tests, AreTestsRequested}
use Rattle.run_spec.specs.Steps.{halted_if}
use Rattle.run_spec.specs.declared.fault.RunFault.{RunFault}
use Rattle.run_scheduler.specs.declared.test_scheduler.TestScheduler.{TestScheduler}
use Rattle.run_scheduler.specs.Rows.{IsSchedulerOf}
use Rattle.passes_spec.specs.Passes.{Pass, pass_of_end}
use Rattle.run_tests.specs.Recording.{AreRecorded}
use Rattle.run_tests.specs.Results.{test_ends}

-- runs with their simulator over files that were built, at most `slots` of them at once
abbrev pub tests_with : List TestRun → List (List ℕ) → List BuiltFile → (slots : ℕ) → (fail_fast : Bool) → TestSetting
tests_with runs simulator built slots fail_fast = record { plan = record { runs = runs; simulator = simulator; fail_fast = fail_fast }; built = built; slots = slots }

-- What holds after these events. They are lawful moves with their requests, and the scheduler is in step with them. While
-- no fault is noted, no end was waited for too early, no child is lost, and the ends that were found are the ends of the
-- runs.
pub record AreUnderWay (setting : TestSetting) (events : List Event) (scheduler : TestScheduler) (found : List RunEnd) (first_fault : Bool) : Type 0 where
  pub moves : LawfulMoves (test_workload setting) empty_schedule (test_moves setting empty_tests events)
  pub requests : AreTestsRequested setting empty_tests events
  pub greedy : first_fault ≡ false → GreedyMoves (test_workload setting) empty_schedule (test_moves setting empty_tests events)
  pub none_lost : first_fault ≡ false → list_any is_gone events ≡ false
  pub in_step : IsSchedulerOf scheduler (test_workload setting) (halted_if first_fault (progress_of_tests setting events).schedule)
  pub found_all : first_fault ≡ false → found ≡ test_ends setting events

-- an exit is the answer to what its ticket was started with, where that was started before
abbrev pub AnswersStart : (Request → Exit) → List Event → Event → Type 0
AnswersStart answer before (Started ticket request) = Unit {0}
AnswersStart answer before (Ended ticket exit) = IfSome (started_with ticket before) (λ request. exit ≡ answer request)
AnswersStart answer before (Gone ticket) = Unit {0}

-- all that holds of runs that are under way, over children that tell and answer so
pub record Goes (tells : Type 0) (answer : Request → Exit) (setting : TestSetting) (old : List Event) (scheduler : TestScheduler) (found : List RunEnd) (first_fault : Bool) (new : List Event) : Type 0 where
  pub events : List Event
  pub under_way : AreUnderWay setting events scheduler found first_fault
  pub journal : tells → new ≡ old ++ events
  pub fresh : tells → EachAfter HasFreshTicket old events
  pub answers : tells → EachAfter (AnswersStart answer) old events

-- the same, with what was recorded of these runs, if passes are recorded at all
pub record GoesOn (tells : Type 0) (answer : Request → Exit) (setting : TestSetting) (old : List Event) (scheduler : TestScheduler) (found : List RunEnd) (first_fault : Bool) (new : List Event) (records : Bool) (before now : List Pass) : Type 0 where
  pub going : Goes tells answer setting old scheduler found first_fault new
  pub recorded : records ≡ true → AreRecorded setting going.events first_fault before now

-- a pass of a run with this output, over the files and with the simulator of a setting
abbrev pub IsPassOver : (TestRun → List ℕ → Pass) → List (List ℕ) → List BuiltFile → Type 0
IsPassOver pass_with simulator built = (run : TestRun) (output : List ℕ) → pass_with run output ≡ record { run = run; simulator = simulator; built = built; output = output }

-- the pass of the run at a position that passed with this exit; none without a position
abbrev pub passes_told : TestSetting → Exit → Option ℕ → List Pass
passes_told setting exit None = []
passes_told setting exit (Some position) = option_map_or (λ run. pass_of_end run setting.plan.simulator setting.built exit ∷ []) (slice_get setting.plan.runs position) []

-- the position of a run that is to be recorded: it passed, and no fault is noted
abbrev pub told_position : (passed : Bool) → Option RunFault → ℕ → Option ℕ
told_position true None position = Some position
told_position false None position = None
told_position passed (Some fault) position = None
