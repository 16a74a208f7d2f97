-- True records, and disks that hold no others.
use Rattle.std.specs.Prelude.{◌≡◌, List, All}
use Rattle.base.specs.declared.child.Request.{Request}
use Rattle.base.specs.declared.child.Exit.{Exit}
use Rattle.outside.specs.Disks.{DiskState, Image, IsImage}
use Rattle.outside.specs.Records.{Record, request_of}

-- a record is true: the compiler answers its request with the code 0 and its artefact
pub record IsTrueRecord (answer : Request → Exit) (kept : Record) : Type 0 where
  pub code : (answer (request_of kept.asked)).code ≡ 0
  pub output : (answer (request_of kept.asked)).output ≡ kept.artefact

-- all records of an image are true
abbrev pub IsFaithful : (Request → Exit) → (Image → List Record) → Image → Type 0
IsFaithful answer records_of image = All (IsTrueRecord answer) (records_of image)

-- whatever a stop can leave of a disk has true records alone
abbrev pub IsFaithfulDisk : (Request → Exit) → (Image → List Record) → DiskState → Type 0
IsFaithfulDisk answer records_of disk = (image : Image) → IsImage disk image → IsFaithful answer records_of image
