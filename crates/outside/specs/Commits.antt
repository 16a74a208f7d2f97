-- Images by number: how many of the records that are committed one after the other an image has.
use Rattle.std.specs.Prelude.{◌≡◌, ℕ, ◌+◌, ◌≤◌, Bool, true, false, List, [], ◌∷◌, ◌++◌, length, take}
use Rattle.std.specs.List.{AllByRecursion}
use Rattle.outside.specs.Records.{Record}
use Rattle.outside.specs.Disks.{DiskState, Image, Moments, EachImage, AtAnyMoment, StaysTrue, NeverLoses}

-- the records from before with the first of more, at least `low` of them and at most `high`
pub record HasFirst (low high : ℕ) (before more now : List Record) : Type 0 where
  pub count : ℕ
  pub at_least : low ≤ count
  pub at_most : count ≤ high
  pub within : count ≤ length more
  pub are : now ≡ before ++ take count more

-- The most commits that an image has: the acknowledged ones, and one more while the store is broken. The commit that
-- failed may be on the disk.
abbrev pub most_committed : (broken : Bool) (acknowledged : ℕ) → ℕ
most_committed true acknowledged = acknowledged + 1
most_committed false acknowledged = acknowledged

-- one more record where a commit answered that it is there
abbrev pub one_if : Bool → ℕ
one_if true = 1
one_if false = 0

-- A prefix of new records is committed, and `acknowledged` counts the acknowledged ones. At any moment an image has the
-- records from before with a prefix of the new ones. In the end each image has all acknowledged records. Once each image
-- has at least a number of records, no later image has fewer.
pub record CommitsFirst (acknowledged : ℕ) (broken : Bool) (before more : List Record) (records_of : Image → List Record) (old new : Moments) : Type 0 where
  pub any_moment : AtAnyMoment old new (λ image. HasFirst 0 (most_committed broken acknowledged) before more (records_of image))
  pub last : EachImage (λ image. HasFirst acknowledged (most_committed broken acknowledged) before more (records_of image)) new.now
  pub loses : (count : ℕ) → NeverLoses old new (λ image. count ≤ length (records_of image))

-- the last state of a list, and `first` where it is empty
abbrev pub last_state : DiskState → List DiskState → DiskState
last_state first [] = first
last_state first (next ∷ later) = last_state next later

-- A prefix of new records is committed from a state of a disk on, through those after it.
pub record CommitsFirstIn (acknowledged : ℕ) (broken : Bool) (before more : List Record) (records_of : Image → List Record) (first : DiskState) (later : List DiskState) : Type 0 where
  pub any_moment : AllByRecursion (EachImage (λ image. HasFirst 0 (most_committed broken acknowledged) before more (records_of image))) (first ∷ later)
  pub last : EachImage (λ image. HasFirst acknowledged (most_committed broken acknowledged) before more (records_of image)) (last_state first later)
  pub loses : (count : ℕ) → StaysTrue (λ image. count ≤ length (records_of image)) first later
