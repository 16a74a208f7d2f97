-- What a journal knows of its disk.
use Rattle.std.specs.Prelude.{◌≡◌, ◌≢◌, ℕ, ◌+◌, ◌<◌, ◌^◌, Bool, List, [], ◌∷◌, ◌++◌, ◌-◌, length, take, drop, All, Option, Some, None}
use Rattle.std.specs.List.{flat_map}
use Rattle.base.specs.Bytes.{text_bytes}
use Rattle.outside.specs.declared.disk.Side.{Side}
use Rattle.outside.specs.declared.disk.Side.TheVariants.{A, B}
use Rattle.outside.specs.Disks.{DiskState, Image, IsImage, image_side, reads_of, settled_disk}
use Rattle.store_journal.specs.Payloads.{counting, generation_of, block, payload_at, payloads, payloads_in, side_bytes}

-- A journal: its form, the side that counts with its generation, the number of its bytes up to and with the closed
-- commit byte, and whether a call has failed.
pub record JournalState : Type 0 where
  pub form : ℕ
  pub live : Side
  pub generation : ℕ
  pub len : ℕ
  pub broken : Bool

-- the side that doesn't count
abbrev pub other_side : Side → Side
other_side A = B
other_side B = A

-- A side's bytes: the header, the blocks of these payloads, a commit byte, and what follows; and the number of those up to
-- and with that commit byte.
pub record IsSpelled (count : ℕ) (payloads : List (List ℕ)) (bytes : List ℕ) : Type 0 where
  pub head : List ℕ
  pub commit_byte : ℕ
  pub rest : List ℕ
  pub parts : bytes ≡ head ++ (flat_map block payloads ++ commit_byte ∷ rest)
  pub header : length head ≡ 18
  pub count_is : count ≡ 19 + length (flat_map block payloads)
  pub small : All (λ payload. length payload < 2 ^ 32) payloads

-- No payload follows these ones on a side.
pub record EndsAt (count : ℕ) (payloads : List (List ℕ)) (bytes : List ℕ) : Type 0 where
  pub spelled : IsSpelled count payloads bytes
  pub none : payload_at (spelled.commit_byte ∷ spelled.rest) ≡ None

-- The commit byte after these payloads of a side isn't open.
pub record HasClosedCommitByteAt (count : ℕ) (payloads : List (List ℕ)) (bytes : List ℕ) : Type 0 where
  pub spelled : IsSpelled count payloads bytes
  pub closed : spelled.commit_byte ≢ 1

-- The journal's state describes the disk. The disk is settled: a stop leaves exactly the bytes that reads return. The side that
-- counts, and its generation, are the journal's, and the side's closed commit byte is the last of the journal's bytes.
pub record IsInStep (journal : JournalState) (disk : DiskState) : Type 0 where
  pub settled : disk ≡ settled_disk (reads_of disk)
  pub counts : counting journal.form (reads_of disk) ≡ Some journal.live
  pub generation : generation_of (image_side journal.live (reads_of disk)) ≡ journal.generation
  pub closed : HasClosedCommitByteAt journal.len (payloads journal.form (reads_of disk)) (image_side journal.live (reads_of disk))

-- an image has the payloads of an image of a disk
pub record HasPayloadsOf (form : ℕ) (disk : DiskState) (image : Image) : Type 0 where
  pub before : Image
  pub was : IsImage disk before
  pub same : payloads form image ≡ payloads form before

-- A side counts, and the commit byte after its last payload isn't open.
pub record IsHealthy (form : ℕ) (image : Image) : Type 0 where
  pub live : Side
  pub counts : counting form image ≡ Some live
  pub count : ℕ
  pub closed : HasClosedCommitByteAt count (payloads form image) (image_side live image)

-- a journal of this side and this generation
pub record CountsAs (side : Side) (generation : ℕ) (journal : JournalState) : Type 0 where
  pub live : journal.live ≡ side
  pub generation_is : journal.generation ≡ generation

-- The journal of an image is of the side that counts, with its generation; where none counts, of A and 1.
abbrev pub OpensAt : Image → Option Side → JournalState → Type 0
OpensAt image None journal = CountsAs A 1 journal
OpensAt image (Some side) journal = CountsAs side (generation_of (image_side side image)) journal

-- the journal that is opened on an image for a form: of the side that counts, with its generation, or of A and 1 where none counts
abbrev pub OpensAs : ℕ → Image → JournalState → Type 0
OpensAs form image journal = OpensAt image (counting form image) journal

-- a side that is ready to be written: its form, its generation and its payloads
pub record SideContent : Type 0 where
  pub form : ℕ
  pub generation : ℕ
  pub payloads : List (List ℕ)

-- the payload between its length and the commit byte after it
abbrev pub payload_within : List ℕ → List ℕ
payload_within bytes = take (length bytes - 5) (drop 4 bytes)

-- a payload with its length, and a closed commit byte
pub record IsReady (bytes : List ℕ) : Type 0 where
  pub parts : bytes ≡ text_bytes (payload_within bytes) ++ 0 ∷ []
  pub small : length (payload_within bytes) < 2 ^ 32

-- the bytes of a side after its first
pub record IsReadySide (form generation : ℕ) (bytes : List ℕ) : Type 0 where
  pub parts : 1 ∷ bytes ≡ side_bytes form generation (payloads_in (1 ∷ bytes))
  pub small : All (λ payload. length payload < 2 ^ 32) (payloads_in (1 ∷ bytes))
