-- The steps of a job, and its children as moves speak of them.
use Rattle.std.specs.Prelude.{ℕ, Bool, not, ◌&&◌, ◌||◌, ◌==◌, if◌then◌else◌, List, [], ◌∷◌, ◌++◌, length, Option, Some, None}
use Rattle.run_spec.specs.Moves.{Workload, SchedulerState, RunningChild, start_now, without_child}
use Rattle.run_spec.specs.declared.child.Child.{Child}
use Rattle.run_spec.specs.declared.step.Step.{Step}
use Rattle.run_spec.specs.declared.step.Step.TheVariants.{Start, Wait, Finished}

-- the step for a position to start, or none, while no child runs or some do
abbrev pub step_of : Option ℕ → Bool → Step
step_of (Some position) idle = Start position
step_of None idle = if idle then Finished else Wait

-- the step that is to be taken after what has happened so far
unfoldable pub step_at : Workload → SchedulerState → Step
step_at workload schedule = step_of (start_now workload schedule) (length schedule.running == 0)

-- a child as moves speak of it
abbrev pub running_child : Child → RunningChild
running_child child = record { ticket = child.ticket; position = child.position }

-- what has happened, but the child of a ticket runs no more
abbrev pub without_ticket : ℕ → SchedulerState → SchedulerState
without_ticket ticket schedule = record { taken = schedule.taken; running = without_child ticket schedule.running; ended = schedule.ended; halted = schedule.halted }

-- what has happened, and a child of the file, or of the run, at a position has ended
abbrev pub with_end : Workload → SchedulerState → ℕ → Bool → List ℕ → SchedulerState
with_end workload schedule position ok output =
    record { taken = schedule.taken; running = schedule.running; ended = schedule.ended ++ (record { position = position; ok = ok; output = output }) ∷ []; halted = schedule.halted || (not workload.keep_going && not ok) }

-- what has happened, but nothing more is started where something else halts it
abbrev pub halted_if : Bool → SchedulerState → SchedulerState
halted_if halts schedule = record { taken = schedule.taken; running = schedule.running; ended = schedule.ended; halted = schedule.halted || halts }
