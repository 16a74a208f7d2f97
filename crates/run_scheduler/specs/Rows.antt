-- What a row is one of: a job of runs in order, and what has happened in it so far.
use Rattle.std.specs.Prelude.{◌≡◌, ℕ, ◌+◌, ◌-◌, ◌*◌, ◌≤◌, nat_lt, Bool, false, not, ◌&&◌, ◌==◌, if◌then◌else◌, List, [], length, map, Option, Some, None}
use Rattle.base.specs.PresentGraph.{below}
use Rattle.run_spec.specs.Moves.{Workload, SchedulerState, EndedChild, has_ended_well, is_made_so_far}
use Rattle.run_spec.specs.declared.step.Step.{Step}
use Rattle.run_spec.specs.Steps.{step_of, running_child}
use Rattle.run_scheduler.specs.declared.test_scheduler.TestScheduler.{TestScheduler}

-- a workload of this number of runs, without dependencies; a run is made once its child has ended well
pub record IsSchedulerWorkload (workload : Workload) (runs limit : ℕ) (fail_fast : Bool) : Type 0 where
  pub count : workload.count ≡ runs
  pub deps : (at : ℕ) → workload.deps at ≡ []
  pub is_made : (ended : List EndedChild) (at : ℕ) → workload.is_made ended at ≡ has_ended_well ended at
  pub slots : workload.slots ≡ limit
  pub keep_going : workload.keep_going ≡ not fail_fast

-- the run that a row would start, where it may start one
unfoldable pub candidate_of : TestScheduler → Option ℕ
candidate_of scheduler = if nat_lt (length scheduler.children.items) scheduler.limit && not scheduler.is_halted then (if nat_lt scheduler.next scheduler.count then Some scheduler.next else None) else None

-- the step that a row gives
unfoldable pub next_of : TestScheduler → Step
next_of scheduler = step_of (candidate_of scheduler) (length scheduler.children.items == 0)

-- the tickets of the children that a row knows to run, in order of their starts
unfoldable pub tickets_of : TestScheduler → List ℕ
tickets_of scheduler = map (λ child. child.ticket) scheduler.children.items

-- how many runs a row has
unfoldable pub run_count : TestScheduler → ℕ
run_count scheduler = scheduler.count

-- how many calls may still come: each start leaves less than before, and so does each end
unfoldable pub to_come : TestScheduler → ℕ
to_come scheduler = 2 * (scheduler.count - scheduler.next) + length scheduler.children.items + (if scheduler.is_halted then 0 else 1)

-- a row is that of a job and of what has happened in it so far: the runs before the next one were started, in order, and no other is made
pub record IsSchedulerOf (scheduler : TestScheduler) (workload : Workload) (schedule : SchedulerState) : Type 0 where
  pub of_workload : IsSchedulerWorkload workload scheduler.count scheduler.limit scheduler.fail_fast
  pub halted : schedule.halted ≡ scheduler.is_halted
  pub running : schedule.running ≡ map running_child scheduler.children.items
  pub taken : schedule.taken ≡ below scheduler.next
  pub unmade : (at : ℕ) → scheduler.next ≤ at → is_made_so_far workload schedule at ≡ false
