-- The passes that runs of tests record, in order of the ends of their children, and when their starts come.
use Rattle.std.specs.Prelude.{◌≡◌, ℕ, ◌≤◌, Bool, false, List, [], ◌∷◌, ◌++◌, length, slice_get, take, Option, Some, None, if◌then◌else◌}
use Rattle.std.specs.List.{flat_map}
use Rattle.base.specs.declared.child.Exit.{Exit}
use Rattle.base.specs.declared.child.Event.{Event}
use Rattle.base.specs.declared.child.Event.TheVariants.{Started, Ended, Gone}
use Rattle.testbench_runs.specs.declared.runs.TestRun.{TestRun}
use Rattle.testbench_runs.specs.Verdicts.{is_passed}
use Rattle.passes_spec.specs.Passes.{Pass, pass_of_end}
use Rattle.outside.specs.declared.records.StoreFault.{StoreFault}
use Rattle.outside.specs.declared.records.StoreFault.TheVariants as store
use Rattle.run_spec.specs.declared.fault.RunFault.{RunFault}
use Rattle.run_spec.specs.declared.fault.RunFault.TheVariants as fault
use Rattle.run_spec.specs.ChildJournal.{EachAfter}
use Rattle.run_spec.specs.TestJournal.{TestSetting, TestExit, progress_of_tests}

-- what is recorded of a run with this exit: one pass if all of its cases passed, and nothing otherwise
abbrev pub passes_of_run : TestSetting → Option TestRun → Exit → List Pass
passes_of_run setting None exit = []
passes_of_run setting (Some run) exit = if is_passed run exit then pass_of_end run setting.plan.simulator setting.built exit ∷ [] else []

-- what is recorded of the run at a position
abbrev pub passes_of_exit : TestSetting → TestExit → List Pass
passes_of_exit setting end = passes_of_run setting (slice_get setting.plan.runs end.position) end.exit

-- the passes of runs of tests with these events, in order of the ends of their children
abbrev pub new_passes : TestSetting → List Event → List Pass
new_passes setting events = flat_map (passes_of_exit setting) (progress_of_tests setting events).ends

-- a start comes where the events before it give at most this number of passes
abbrev pub ComesAfterPasses : TestSetting → ℕ → List Event → Event → Type 0
ComesAfterPasses setting count before (Started ticket request) = length (new_passes setting before) ≤ count
ComesAfterPasses setting count before (Ended ticket exit) = Unit {0}
ComesAfterPasses setting count before (Gone ticket) = Unit {0}

-- with this number of recorded passes, each start comes where all passes before it are recorded
abbrev pub WaitsForPasses : TestSetting → (count : ℕ) → List Event → Type 0
WaitsForPasses setting count events = EachAfter (ComesAfterPasses setting count) [] events

-- What runs of tests recorded, beside the passes that were there before: the first of their passes, and all of them unless there
-- was a fault. Each start comes where all passes before it are recorded.
pub record AreRecorded (setting : TestSetting) (events : List Event) (faulty : Bool) (before now : List Pass) : Type 0 where
  pub count : ℕ
  pub within : count ≤ length (new_passes setting events)
  pub are : now ≡ before ++ take count (new_passes setting events)
  pub all : faulty ≡ false → count ≡ length (new_passes setting events)
  pub waits : WaitsForPasses setting count events

-- the fault of runs of tests that a failed record is answered by
abbrev pub record_fault : StoreFault → RunFault
record_fault store.NoMemory = fault.NoMemory
record_fault store.DiskFailed = fault.DiskFailed
