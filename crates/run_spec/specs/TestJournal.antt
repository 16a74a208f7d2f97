-- The journal of the runs of tests: which run is started when, and what its child is started with.
use Rattle.std.specs.Prelude.{◌≡◌, ℕ, Bool, false, not, List, [], ◌∷◌, ◌++◌, length, slice_get, Option, Some, None, unwrap_or}
use Rattle.std.specs.Option.{option_map, option_and_then}
use Rattle.std.specs.List.{list_any}
use Rattle.base.specs.declared.graph.BuiltFile.{BuiltFile}
use Rattle.base.specs.declared.child.Request.{Request}
use Rattle.base.specs.declared.child.Exit.{Exit}
use Rattle.base.specs.declared.child.Event.{Event}
use Rattle.base.specs.declared.child.Event.TheVariants.{Started, Ended, Gone}
use Rattle.run_spec.specs.Moves.{Workload, SchedulerState, empty_schedule, Move, Starts, Ends, Loses, has_ended_well, next_start, position_of, after_move, LawfulMoves, GreedyMoves, IsFinished}
use Rattle.run_spec.specs.ChildJournal.{EachAfter, HasFreshTicket, is_gone}
use Rattle.testbench_runs.specs.declared.runs.TestRun.{TestRun}
use Rattle.testbench_runs.specs.BenchJobs.{bench_request}
use Rattle.testbench_runs.specs.Verdicts.{is_passed}

-- the plan of tests: the runs in order, the command of the simulator, and whether nothing more is started after a failed run
pub record TestPlan : Type 0 where
  pub runs : List TestRun
  pub simulator : List (List ℕ)
  pub fail_fast : Bool

-- what the runs work on: the plan, the files that were built, and how many children run at once
pub record TestSetting : Type 0 where
  pub plan : TestPlan
  pub built : List BuiltFile
  pub slots : ℕ

-- the exit of the run at a position
pub record TestExit : Type 0 where
  pub position : ℕ
  pub exit : Exit

-- what has happened so far: the moves' part of it, and the exits in order of the ends
pub record TestProgress : Type 0 where
  pub schedule : SchedulerState
  pub ends : List TestExit

-- before the first event of a test
abbrev pub empty_tests : TestProgress
empty_tests = record { schedule = empty_schedule; ends = [] }

-- the order of the runs: none depends on another, and one is made where its child has ended well
abbrev pub test_workload : TestSetting → Workload
test_workload setting = record { count = length setting.plan.runs; deps = λ position. []; is_made = λ ended position. has_ended_well ended position; slots = setting.slots; keep_going = not setting.plan.fail_fast }

-- the run at a position has passed with this exit
abbrev pub has_passed : Option TestRun → Exit → Bool
has_passed None exit = false
has_passed (Some run) exit = is_passed run exit

-- the run at a position has passed with this exit; false without a position
abbrev pub passed_at : TestSetting → Option ℕ → Exit → Bool
passed_at setting None exit = false
passed_at setting (Some position) exit = has_passed (slice_get setting.plan.runs position) exit

-- the position of the run that the next start is of
abbrev pub next_run : TestSetting → TestProgress → Option ℕ
next_run setting progress = next_start (test_workload setting) progress.schedule

-- the move of an event
abbrev pub test_move : TestSetting → TestProgress → Event → Move
test_move setting progress (Started ticket request) = Starts (unwrap_or (next_run setting progress) 0) ticket
test_move setting progress (Ended ticket exit) = Ends ticket (passed_at setting (position_of ticket progress.schedule.running) exit) exit.output
test_move setting progress (Gone ticket) = Loses ticket

-- the exit of the run at a position; no exit without a position
abbrev pub exits_of : Option ℕ → Exit → List TestExit
exits_of None exit = []
exits_of (Some position) exit = record { position = position; exit = exit } ∷ []

-- the exits that an event adds: one where a child ends that runs, and else none
abbrev pub new_exits : TestProgress → Event → List TestExit
new_exits progress (Started ticket request) = []
new_exits progress (Ended ticket exit) = exits_of (position_of ticket progress.schedule.running) exit
new_exits progress (Gone ticket) = []

-- what has happened after one more event
unfoldable pub after_test : TestSetting → TestProgress → Event → TestProgress
after_test setting progress event = record { schedule = after_move (test_workload setting) progress.schedule (test_move setting progress event); ends = progress.ends ++ new_exits progress event }

-- what has happened after more events, in order
unfoldable pub after_tests : TestSetting → TestProgress → List Event → TestProgress
after_tests setting progress [] = progress
after_tests setting progress (event ∷ events) = after_tests setting (after_test setting progress event) events

-- what has happened after all of these events
abbrev pub progress_of_tests : TestSetting → List Event → TestProgress
progress_of_tests setting events = after_tests setting empty_tests events

-- the moves of events
unfoldable pub test_moves : TestSetting → TestProgress → List Event → List Move
test_moves setting progress [] = []
test_moves setting progress (event ∷ events) = test_move setting progress event ∷ test_moves setting (after_test setting progress event) events

-- what the run at a position is started with
abbrev pub test_request_at : TestSetting → ℕ → Option Request
test_request_at setting position = option_map (λ run. bench_request run setting.plan.simulator setting.built) (slice_get setting.plan.runs position)

-- a start is made with what its run is started with
abbrev pub IsTestRequested : TestSetting → TestProgress → Event → Type 0
IsTestRequested setting progress (Started ticket request) = option_and_then (test_request_at setting) (next_run setting progress) ≡ Some request
IsTestRequested setting progress (Ended ticket exit) = Unit {0}
IsTestRequested setting progress (Gone ticket) = Unit {0}

-- each start is made with what its run is started with, at the moment where it comes
unfoldable pub AreTestsRequested : TestSetting → TestProgress → List Event → Type 0
AreTestsRequested setting progress [] = Unit {0}
AreTestsRequested setting progress (event ∷ events) = IsTestRequested setting progress event × AreTestsRequested setting (after_test setting progress event) events

-- each event of a journal is lawful where it comes
pub record LawfulTests (setting : TestSetting) (events : List Event) : Type 0 where
  pub moves : LawfulMoves (test_workload setting) empty_schedule (test_moves setting empty_tests events)
  pub requests : AreTestsRequested setting empty_tests events
  pub tickets : EachAfter HasFreshTicket [] events

-- the events of runs that ended by themselves
pub record IsWholeTests (setting : TestSetting) (events : List Event) : Type 0 where
  pub lawful : LawfulTests setting events
  pub greedy : GreedyMoves (test_workload setting) empty_schedule (test_moves setting empty_tests events)
  pub finished : IsFinished (test_workload setting) (progress_of_tests setting events).schedule
  pub none_lost : list_any is_gone events ≡ false
