-- What a build leaves of a store and of its disk: how many of the records that are to be committed are acknowledged.
use Rattle.std.specs.Prelude.{◌≡◌, ℕ, ◌≤◌, Bool, List, [], ◌∷◌, ◌++◌, length, take, Option}
use Rattle.std.specs.Bool.{OnTrue, OnFalse}
use Rattle.base.specs.declared.file.FileName.{FileName}
use Rattle.base.specs.declared.child.Event.{Event}
use Rattle.outside.specs.Disks.{Image, Moments, reads_of}
use Rattle.outside.specs.Records.{Record, with_record}
use Rattle.outside.specs.Commits.{CommitsFirst}
use Rattle.run_spec.specs.ChildJournal.{Work}
use Rattle.run_spec.specs.Commits.{commits, Waits}

-- the latest record of each name, with more records
abbrev pub latest_after : List Record → (FileName → Option Record) → FileName → Option Record
latest_after [] latest_of = latest_of
latest_after (first ∷ rest) latest_of = latest_after rest (with_record first latest_of)

-- The first `acknowledged` commits are acknowledged: all of them if nothing kept the build from it. The store knows these
-- records. Each child was started once all commits before it were acknowledged.
pub record Acknowledges (setting : Work) (events : List Event) (all : Bool) (before now : FileName → Option Record) (acknowledged : ℕ) : Type 0 where
  pub few : acknowledged ≤ length (commits setting events)
  pub whole : OnTrue all (acknowledged ≡ length (commits setting events))
  pub waits : Waits setting acknowledged events
  pub latest : (name : FileName) → now name ≡ latest_after (take acknowledged (commits setting events)) before name

-- What the disk holds of new records, if the first `acknowledged` ones are acknowledged. While the store is usable,
-- reads give the old records and then the acknowledged ones. At any moment a stop leaves the old records with a prefix of
-- the new ones. Without new records the disk doesn't change.
pub record HoldsFirst (acknowledged : ℕ) (broken : Bool) (more : List Record) (records_of : Image → List Record) (old new : Moments) : Type 0 where
  pub reads : OnFalse broken (records_of (reads_of new.now) ≡ records_of (reads_of old.now) ++ take acknowledged more)
  pub images : CommitsFirst acknowledged broken (records_of (reads_of old.now)) more records_of old new
  pub untouched : more ≡ [] → new ≡ old
