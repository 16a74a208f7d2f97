-- A log of children: the running children, the events so far, and which child ends next.
use Rattle.std.specs.Prelude.{◌≡◌, ℕ, ◌+◌, ◌%◌, ◌<◌, ◌≤◌, nat_lt, List, [], ◌∷◌, ◌++◌, length, slice_get, slice_index, Some, if◌then◌else◌}
use Rattle.std.specs.List.{AllByRecursion}
use Rattle.memory_outside.specs.Rooms.{Roomy}
use Rattle.base.specs.declared.child.Request.{Request}
use Rattle.base.specs.declared.child.Event.{Event}
use Rattle.base.specs.declared.child.Event.TheVariants as event
use Rattle.outside.specs.Children.{started_with, without}
use Rattle.outside.specs.Counts.{Counted}
use Rattle.memory_outside.specs.declared.failing.Calls.{Calls}
use Rattle.memory_outside.specs.Failing.{next_call, no_calls, MakesCall}

-- a log: the running tickets in order of start, the journal, the picks and the number of waits so far, its calls,
-- whose faults are failed starts, and how many children were lost
pub record HeldChildLog : Type 0 where
  pub running : List ℕ
  pub journal : List Event
  pub picks : List ℕ
  pub waits : ℕ
  pub calls : Calls
  pub lost_children : ℕ

-- a log without children
abbrev pub no_children : (picks failing : List ℕ) → HeldChildLog
no_children picks failing = record { running = []; journal = []; picks = picks; waits = 0; calls = no_calls failing; lost_children = 0 }

-- The index of the ticket that a wait takes among the running ones: the pick with the number of the wait, modulo the number of
-- running children. Past the end of the picks it is 0, the oldest.
abbrev pub pick : List ℕ → (wait running : ℕ) → ℕ
pick picks wait running = if nat_lt wait (length picks) then slice_index picks wait % running else 0

-- the ticket that the next wait takes
abbrev pub picked : HeldChildLog → ℕ
picked child_log = slice_index child_log.running (pick child_log.picks child_log.waits (length child_log.running))

-- the ticket of a start is the index of its event
abbrev pub Placed : List Event → Type 0
Placed journal = (ticket : ℕ) (request : Request) → started_with ticket journal ≡ Some request → slice_get journal ticket ≡ Some (event.Started ticket request)

-- the invariant of each log: a running ticket is an index of the journal, and there is room for all ends
pub record IsChildLog (running : List ℕ) (journal : Roomy Event) : Type 0 where
  pub placed : Placed journal.items
  pub begun : AllByRecursion (λ ticket. ticket < length journal.items) running
  pub room : length journal.items + length running ≤ journal.room

-- an event other than a start
abbrev pub IsEnd : Event → Type 0
IsEnd (event.Started ticket request) = ⊥
IsEnd (event.Ended ticket exit) = Unit {0}
IsEnd (event.Gone ticket) = Unit {0}

-- a wait ended a child with an event
pub record EndsChild (ticket : ℕ) (end : Event) (old new : HeldChildLog) : Type 0 where
  pub running : new.running ≡ without ticket old.running
  pub journal : new.journal ≡ old.journal ++ end ∷ []
  pub picks : new.picks ≡ old.picks
  pub waits : new.waits ≡ next_call old.waits
  pub calls : MakesCall old.calls new.calls
  pub starts : new.calls.failed ≡ old.calls.failed
  pub children : new.lost_children ≡ old.lost_children

-- a wait lost a child
pub record LosesChild (ticket : ℕ) (old new : HeldChildLog) : Type 0 where
  pub running : new.running ≡ without ticket old.running
  pub journal : new.journal ≡ old.journal ++ event.Gone ticket ∷ []
  pub picks : new.picks ≡ old.picks
  pub waits : new.waits ≡ next_call old.waits
  pub calls : MakesCall old.calls new.calls
  pub starts : new.calls.failed ≡ old.calls.failed
  pub children : Counted old.lost_children new.lost_children
