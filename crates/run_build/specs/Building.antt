-- What opening a store and a build over its records do.
use Rattle.std.specs.Prelude.{◌≡◌, ℕ, ◌+◌, ◌-◌, ◌^◌, ◌<◌, nat_le, min, Bool, true, false, List, length, [], Result, Ok, Err, is_some, IfOk, OnOk}
use Rattle.std.specs.List.{AllByRecursion}
use Rattle.base.specs.declared.child.Request.{Request}
use Rattle.base.specs.declared.child.Exit.{Exit}
use Rattle.base.specs.declared.child.Event.{Event}
use Rattle.run_spec.specs.declared.statuses.FileStatus.{FileStatus}
use Rattle.base.specs.Graphs.{IsGraph}
use Rattle.outside.specs.Records.{Record}
use Rattle.outside.specs.declared.records.StoreFault.{StoreFault}
use Rattle.outside.specs.Disks.{Image, Moments, EachImage, Follows, Rests, added_since, reads_of}
use Rattle.outside.specs.Phases.{IsOpening, IsBase, HasPhases}
use Rattle.run_spec.specs.ChildJournal.{Lawful, Answered, IsWhole, artefact_after}
use Rattle.run_spec.specs.Commits.{commits, Waits}
use Rattle.run_spec.specs.Histories.{Order, IsReadable, work_over}
use Rattle.run_spec.specs.Statuses.{statuses_of}
use Rattle.run_spec.specs.declared.fault.RunFault.{RunFault}
use Rattle.run_spec.specs.declared.fault.RunFault.TheVariants as fault
use Rattle.run_build.specs.declared.building.Kept.{Kept}
use Rattle.run_build.specs.Orders.{IsDurablyRecorded}

-- a count of faults rose
abbrev pub has_risen : ℕ → ℕ → Bool
has_risen before now = nat_le (min (before + 1) (2 ^ 64 - 1)) now

-- what a build gave, apart from the store that it kept
abbrev pub statuses_in : {K : Type 0} → Result (Kept K) RunFault → Result (List FileStatus) RunFault
statuses_in (Ok kept) = Ok kept.statuses
statuses_in (Err why) = Err why

-- What opening a store leaves of a disk, on every answer. Once it is open, its records are the base of what is committed:
-- none where it was emptied.
pub record OpensStore {K : Type 0} (records_of : Image → List Record) (clean : Bool) (result : Result K StoreFault) (old new : Moments) : Type 0 where
  pub follows : Follows old new
  pub phases : (more : List Record) → HasPhases records_of clean 0 more old.now (added_since old new)
  pub opening : OnOk result (IsOpening records_of clean old.now (added_since old new))
  pub base : OnOk result (IsBase records_of clean old.now (records_of (reads_of new.now)))

-- A build that keeps the records of its store and commits none writes nothing, if opening doesn't change the image that
-- reads gave.
abbrev pub RestsOver : {T E : Type 0} → (records_of : Image → List Record) → (is_resting : Image → Type 0) → Order → Result T E → (old new : Moments) → List Event → Type 0
RestsOver records_of is_resting order result old new events = order.clean ≡ false → is_resting (reads_of old.now) → commits (work_over records_of order old.now) events ≡ [] → Rests result old new

-- A build over the records that reads of the disk gave before it, or over no records if the store is emptied. Its moments
-- go through the phases of a store to which its commits are added. The first `acknowledged` commits are acknowledged: all of
-- them unless the disk or memory failed. If the build worked, each made file has a record of what would be asked for it
-- now, whatever a stop can leave at the end. If the store was emptied too, it then has exactly the records of the
-- commits.
pub record BuildsOver (records_of : Image → List Record) (answer : Request → Exit) (order : Order) (result : Result (List FileStatus) RunFault) (disk_failed : Bool) (old new : Moments) (events : List Event) : Type 0 where
  pub graph_form : IsGraph order.graph
  pub lawful : Lawful (work_over records_of order old.now) events
  pub answered : Answered answer events
  pub whole : OnOk result (IsWhole (work_over records_of order old.now) events)
  pub statuses : IfOk result (λ statuses. statuses ≡ statuses_of (work_over records_of order old.now) events)
  pub recorded : OnOk result ((position : ℕ) → position < length order.graph → is_some (artefact_after (work_over records_of order old.now) events position) ≡ true → IsDurablyRecorded records_of new.now order.graph position)
  pub emptied : OnOk result (order.clean ≡ true → EachImage (λ image. records_of image ≡ commits (work_over records_of order old.now) events) new.now)
  pub follows : Follows old new
  pub readable : AllByRecursion IsReadable (added_since old new)
  pub acknowledged : ℕ
  pub phases : HasPhases records_of order.clean acknowledged (commits (work_over records_of order old.now) events) old.now (added_since old new)
  pub waits : Waits (work_over records_of order old.now) acknowledged events
  pub all : disk_failed ≡ false → (result ≡ Err fault.NoMemory → ⊥) → acknowledged ≡ length (commits (work_over records_of order old.now) events)
