-- The faults of a build: which of two came first, and what is committed in spite of one.
use Rattle.std.specs.Prelude.{◌≡◌, ℕ, ◌<◌, ◌≤◌, Bool, true, false, not, ◌&&◌, List, length, Option, Some, None, Result, Ok, Err}
use Rattle.std.specs.List.{list_any, take_while}
use Rattle.base.specs.declared.child.Event.{Event}
use Rattle.outside.specs.Counts.{Counted}
use Rattle.run_spec.specs.ChildJournal.{Work, is_gone}
use Rattle.run_spec.specs.Commits.{commits}
use Rattle.run_spec.specs.Faults.{is_no_memory}
use Rattle.run_spec.specs.declared.fault.RunFault.{RunFault}
use Rattle.run_spec.specs.declared.fault.RunFault.TheVariants.{NoMemory, StartFailed, ChildLost, DiskFailed}

-- whether all is committed that is to be: nothing was out of memory, and the store is usable
abbrev pub is_all_committed : Option RunFault → Bool → Bool
is_all_committed first_fault broken = not (is_no_memory first_fault) && not broken

-- the fault of a disk
abbrev pub is_of_disk : RunFault → Bool
is_of_disk NoMemory = false
is_of_disk StartFailed = false
is_of_disk ChildLost = false
is_of_disk DiskFailed = true

-- the counts after a record was to be committed
abbrev pub CountsCommit : {T : Type 0} → Result T RunFault → ℕ → ℕ → Type 0
CountsCommit (Ok value) before now = now ≡ before
CountsCommit (Err NoMemory) before now = now ≡ before
CountsCommit (Err StartFailed) before now = ⊥
CountsCommit (Err ChildLost) before now = ⊥
CountsCommit (Err DiskFailed) before now = Counted before now

-- the answer is that the disk failed
abbrev pub is_disk_failed : {T : Type 0} → Result T RunFault → Bool
is_disk_failed (Ok value) = false
is_disk_failed (Err NoMemory) = false
is_disk_failed (Err StartFailed) = false
is_disk_failed (Err ChildLost) = false
is_disk_failed (Err DiskFailed) = true

-- the events before the first lost child
abbrev pub before_loss : List Event → List Event
before_loss events = take_while (λ event. not (is_gone event)) events

-- how many records are to be committed of what ended before the first lost child
abbrev pub given_before_loss : Work → List Event → ℕ
given_before_loss setting events = length (commits setting (before_loss events))

-- a child is lost, and each commit from before the first lost child is acknowledged
pub record IsLossFirst (setting : Work) (events : List Event) (acknowledged : ℕ) : Type 0 where
  pub lost : list_any is_gone events ≡ true
  pub before : given_before_loss setting events ≤ acknowledged

-- the store is broken, and of what was given before the first lost child not all is acknowledged
pub record IsDiskFirst (setting : Work) (events : List Event) (acknowledged : ℕ) (broken : Bool) : Type 0 where
  pub breaks : broken ≡ true
  pub before : acknowledged < given_before_loss setting events

-- Of a lost child and the disk the one that came first is answered. A failed start comes before either, by the counts;
-- out of memory takes the place of any other.
abbrev pub ComesFirst : Option RunFault → Work → List Event → (acknowledged : ℕ) → (broken : Bool) → Type 0
ComesFirst None setting events acknowledged broken = Unit {0}
ComesFirst (Some NoMemory) setting events acknowledged broken = Unit {0}
ComesFirst (Some StartFailed) setting events acknowledged broken = Unit {0}
ComesFirst (Some ChildLost) setting events acknowledged broken = IsLossFirst setting events acknowledged
ComesFirst (Some DiskFailed) setting events acknowledged broken = IsDiskFirst setting events acknowledged broken
