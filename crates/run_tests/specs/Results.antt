-- The ends of runs of tests, by the events so far.
use Rattle.std.specs.Prelude.{ℕ, suc, ◌==◌, if◌then◌else◌, List, [], ◌∷◌, Option, Some, None}
use Rattle.std.specs.Option.{option_or}
use Rattle.base.specs.declared.child.Request.{Request}
use Rattle.base.specs.declared.child.Exit.{Exit}
use Rattle.base.specs.declared.child.Event.{Event}
use Rattle.base.specs.declared.graph.BuiltFile.{BuiltFile}
use Rattle.testbench_runs.specs.declared.runs.TestRun.{TestRun}
use Rattle.testbench_runs.specs.declared.ends.RunEnd.{RunEnd}
use Rattle.testbench_runs.specs.Verdicts.{ended_run, started_ends, unstarted_run}
use Rattle.run_spec.specs.TestJournal.{TestPlan, TestSetting, TestExit, progress_of_tests}

-- the exit of the run at a position, which ends at most once
unfoldable pub run_exit : List TestExit → ℕ → Option Exit
run_exit [] position = None
run_exit (first ∷ rest) position = option_or (run_exit rest position) (if first.position == position then Some first.exit else None)

-- the end of a run, by its exit if it has one
abbrev pub run_end : TestRun → Option Exit → RunEnd
run_end run None = unstarted_run run
run_end run (Some exit) = ended_run run exit

-- the ends of runs, by the exits of their positions
abbrev pub run_ends : (ℕ → Option Exit) → List TestRun → List RunEnd
run_ends exit_of [] = []
run_ends exit_of (run ∷ runs) = run_end run (exit_of 0) ∷ run_ends (λ position. exit_of (suc position)) runs

-- the ends of the runs of a setting, in their order
abbrev pub test_ends : TestSetting → List Event → List RunEnd
test_ends setting events = run_ends (run_exit (progress_of_tests setting events).ends) setting.plan.runs

-- the ends of the runs of a plan over these files, where each exit is the answer to the request of its run
abbrev pub steady_ends : (Request → Exit) → TestPlan → List BuiltFile → List RunEnd
steady_ends answer plan built = started_ends answer plan.simulator built plan.runs
