-- What a machine is one of: a job of a build, and what has happened in it so far.
use Rattle.std.specs.Prelude.{◌≡◌, ℕ, ◌+◌, ◌*◌, ◌<◌, nat_lt, Bool, true, false, not, ◌&&◌, ◌||◌, ◌==◌, if◌then◌else◌, All, List, [], length, map, count_by, slice_index_or, Option, Some, None}
use Rattle.std.specs.List.{list_all}
use Rattle.base.specs.declared.graph.Entry.{Entry}
use Rattle.base.specs.PresentGraph.{below}
use Rattle.outside.specs.Records.{deps_at}
use Rattle.base_collections.specs.Positions.{has}
use Rattle.base_collections.specs.declared.set.PositionSet.{PositionSet}
use Rattle.order.specs.Waits.{AreWaitingFiles, is_listed, wait_count}
use Rattle.run_spec.specs.Moves.{Workload, SchedulerState, IsStepwise, is_taken, is_made_so_far, first_from}
use Rattle.run_scheduler.specs.declared.plans.Need.{Need}
use Rattle.run_scheduler.specs.Plans.{is_fresh, is_later, need_at}
use Rattle.run_spec.specs.Steps.{step_of, running_child}
use Rattle.run_spec.specs.declared.step.Step.{Step}
use Rattle.run_scheduler.specs.declared.step.BuildStep.{BuildStep}
use Rattle.run_scheduler.specs.declared.step.BuildStep.TheVariants.{Check, Run}
use Rattle.run_scheduler.specs.declared.build_scheduler.BuildScheduler.{BuildScheduler}

-- The workload of a build: the files of a graph, the number of children at once, and whether the build goes on after a refusal.
-- The plan holds for it: if a file isn't to be checked later, all its dependencies are made from the start. Such a file is
-- itself made from the start exactly if it is fresh.
pub record IsWorkloadOf (workload : Workload) (graph : List Entry) (needs : List Need) (limit : ℕ) (goes_on : Bool) : Type 0 where
  pub stepwise : IsStepwise workload
  pub count : workload.count ≡ length graph
  pub deps : (at : ℕ) → at < length graph → workload.deps at ≡ deps_at graph at
  pub slots : workload.slots ≡ limit
  pub keep_going : workload.keep_going ≡ goes_on
  pub free : (at : ℕ) → at < length graph → is_later (need_at needs at) ≡ false → list_all (workload.is_made []) (workload.deps at) ≡ true
  pub made : (at : ℕ) → at < length graph → is_later (need_at needs at) ≡ false → workload.is_made [] at ≡ is_fresh (need_at needs at)

-- the file at a position needs no check, or was checked
unfoldable pub is_checked : BuildScheduler → ℕ → Bool
is_checked machine at = slice_index_or machine.checked.items at false

-- the file at a position is fresh, or a child of it has ended with code 0
unfoldable pub is_first_fault : BuildScheduler → ℕ → Bool
is_first_fault machine at = slice_index_or machine.made.items at false

-- the machine was stopped: it checks and starts nothing more
unfoldable pub is_stopped_in : BuildScheduler → Bool
is_stopped_in machine = machine.is_stopped

-- how many files a machine has
unfoldable pub files_of : BuildScheduler → ℕ
files_of machine = length machine.made.items

-- the position that is to be checked: the least whose file wasn't, while all that this depends on is made
unfoldable pub check_of : BuildScheduler → Option ℕ
check_of machine = if machine.is_stopped then None else first_from (is_listed machine.later) 0 (files_of machine)

-- the position that a machine would start, where it may start one
unfoldable pub candidate_of : BuildScheduler → Option ℕ
candidate_of machine =
    if nat_lt (length machine.children.items) machine.limit && not (machine.is_halted || machine.is_stopped) then first_from (has machine.ready) 0 (files_of machine) else None

-- a check comes before all else
abbrev pub check_before : Option ℕ → Step → BuildStep
check_before (Some at) step = Check at
check_before None step = Run step

-- the step that a machine gives
unfoldable pub next_of : BuildScheduler → BuildStep
next_of machine = check_before (check_of machine) (step_of (candidate_of machine) (length machine.children.items == 0))

-- the tickets of the children that a machine knows to run, in order of their starts
unfoldable pub tickets_of : BuildScheduler → List ℕ
tickets_of machine = map (λ child. child.ticket) machine.children.items

-- how many of the positions below a number are in a set
unfoldable pub count_in : PositionSet → ℕ → ℕ
count_in set end = count_by (has set) (below end)

-- how many calls may still come: each check leaves less than before, and so does each start and each end
unfoldable pub to_come : BuildScheduler → ℕ
to_come machine = 3 * wait_count machine.later + 2 * count_in machine.ready (files_of machine) + length machine.children.items + (if machine.is_stopped then 0 else 1)

-- a machine is that of a job and of what has happened in it so far
pub record IsMachineOf (machine : BuildScheduler) (workload : Workload) (schedule : SchedulerState) : Type 0 where
  pub stepwise : IsStepwise workload
  pub count : workload.count ≡ files_of machine
  pub slots : workload.slots ≡ machine.limit
  pub keep_going : workload.keep_going ≡ machine.keep_going
  pub halted : schedule.halted ≡ (machine.is_halted || machine.is_stopped)
  pub running : schedule.running ≡ map running_child machine.children.items
  pub started : All (λ child. is_checked machine child.position ≡ true) machine.children.items
  pub untaken : (at : ℕ) → at < workload.count → is_checked machine at ≡ false → is_taken schedule at ≡ false
  pub free : (at : ℕ) → at < workload.count → is_checked machine at ≡ true → list_all (is_made_so_far workload schedule) (workload.deps at) ≡ true
  pub made : (at : ℕ) → at < workload.count → is_first_fault machine at ≡ (is_checked machine at && is_made_so_far workload schedule at)
  pub later : AreWaitingFiles machine.later workload.count workload.deps (λ at. not (is_checked machine at)) (is_first_fault machine)
  pub ready : (at : ℕ) → at < workload.count → has machine.ready at ≡ (is_checked machine at && (not (is_taken schedule at) && not (is_first_fault machine at)))
