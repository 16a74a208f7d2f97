-- The phases of a run over a store of records: it opens the disk, may empty it, and commits records one after the other.
-- Each phase says what the images of its moments have. `first` is the moment before the run, `later` those after it.
use Rattle.std.specs.Prelude.{◌≡◌, ◌⊎◌, ℕ, Bool, false, true, List, [], ◌∷◌, ◌++◌}
use Rattle.std.specs.List.{AllByRecursion}
use Rattle.outside.specs.Records.{Record}
use Rattle.outside.specs.Disks.{DiskState, Image, IsImage, reads_of, EachImage, Shrinks}
use Rattle.outside.specs.Records.{IsAllOrLatest}
use Rattle.outside.specs.Commits.{last_state, CommitsFirstIn}

-- Once both sides are synced, an image has the records that reads gave before the run, or only the latest of each name.
-- If the run empties the store, an image may also have no records.
abbrev pub IsSettled : (Image → List Record) → (clean : Bool) → DiskState → Image → Type 0
IsSettled records_of clean first image = IsAllOrLatest (records_of (reads_of first)) (records_of image) ⊎ ((clean ≡ true) × (records_of image ≡ []))

-- images only become fewer until both sides are synced, and are settled from then on
pub record IsOpening (records_of : Image → List Record) (clean : Bool) (first : DiskState) (later : List DiskState) : Type 0 where
  pub syncing : List DiskState
  pub settling : List DiskState
  pub parts : later ≡ syncing ++ settling
  pub fewer : Shrinks first syncing
  pub settles : AllByRecursion (EachImage (IsSettled records_of clean first)) (last_state first syncing ∷ settling)

-- The records that commits are added to: no records if the store was emptied. Otherwise they are the records that reads
-- gave before the run, or only the latest of each name.
abbrev pub IsBase : (Image → List Record) → (clean : Bool) → DiskState → List Record → Type 0
IsBase records_of true first base = base ≡ []
IsBase records_of false first base = IsAllOrLatest (records_of (reads_of first)) base

-- A disk is opened. Then a prefix of new records is committed, and `acknowledged` counts the acknowledged ones.
pub record IsCommitting (records_of : Image → List Record) (clean : Bool) (acknowledged : ℕ) (broken : Bool) (more : List Record) (first : DiskState) (later : List DiskState) : Type 0 where
  pub opening : List DiskState
  pub committing : List DiskState
  pub parts : later ≡ opening ++ committing
  pub opens : IsOpening records_of clean first opening
  pub base : List Record
  pub from : IsBase records_of clean first base
  pub commits : CommitsFirstIn acknowledged broken base more records_of (last_state first opening) committing

-- How far a run came: its disk was never settled, or was only opened, or records were committed to it. `acknowledged`
-- counts the acknowledged records; it is 0 in the first two cases.
pub data HasPhases (records_of : Image → List Record) (clean : Bool) (acknowledged : ℕ) (more : List Record) (first : DiskState) (later : List DiskState) : Type 0 where
  unopened : acknowledged ≡ 0 → Shrinks first later → HasPhases records_of clean acknowledged more first later
  opened : acknowledged ≡ 0 → IsOpening records_of clean first later → HasPhases records_of clean acknowledged more first later
  committed : (broken : Bool) → IsCommitting records_of clean acknowledged broken more first later → HasPhases records_of clean acknowledged more first later

-- An image has the records from before a run, with a prefix of new ones. Of those from before it has all or the latest
-- of each name alone; or none, where the store is emptied.
pub record HasBaseAndPrefix (records_of : Image → List Record) (clean : Bool) (more : List Record) (first : DiskState) (image : Image) : Type 0 where
  pub base : List Record
  pub from : ((before : Image) × IsImage first before × IsAllOrLatest (records_of before) base) ⊎ ((clean ≡ true) × (base ≡ []))
  pub prefix : List Record
  pub left : List Record
  pub all : more ≡ prefix ++ left
  pub are : records_of image ≡ base ++ prefix
