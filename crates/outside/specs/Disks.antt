-- What a stop can leave of the two sides of a disk, and the moments of a run of calls.
use Rattle.std.specs.Prelude.{◌≡◌, ◌⊎◌, ℕ, ◌+◌, ◌^◌, ◌<◌, ◌≤◌, nat_le, nat_lt, max, Bool, false, ◌&&◌, ◌||◌, List, [], ◌∷◌, ◌++◌, length, take, drop, slice_index, Result, OnOk, if◌then◌else◌}
use Rattle.std.specs.List.{AllByRecursion}
use Rattle.outside.specs.declared.disk.Side.{Side}
use Rattle.outside.specs.declared.disk.Side.TheVariants.{A, B}

-- A side at a moment. `reads` is what reads give, and `synced` has the bytes after the last sync that answered Ok. `low`
-- and `high` are the least and the greatest length that the side had or was being given since then. `touched` has the
-- offset and the number of bytes of each write since then, the last write first. A write that failed or didn't end counts
-- too.
pub record SideState : Type 0 where
  pub reads : List ℕ
  pub synced : List ℕ
  pub low : ℕ
  pub high : ℕ
  pub touched : List (ℕ × ℕ)

-- both sides at a moment
pub record DiskState : Type 0 where
  pub a : SideState
  pub b : SideState

-- the bytes of both sides
pub record Image : Type 0 where
  pub a : List ℕ
  pub b : List ℕ

-- the state of one side
abbrev pub side_of : Side → DiskState → SideState
side_of A disk = disk.a
side_of B disk = disk.b

-- the bytes of one side of an image
abbrev pub image_side : Side → Image → List ℕ
image_side A image = image.a
image_side B image = image.b

-- a disk with one side changed
abbrev pub on_side : Side → (SideState → SideState) → DiskState → DiskState
on_side A change disk = record { a = change disk.a; b = disk.b }
on_side B change disk = record { a = disk.a; b = change disk.b }

-- whether some write touched a position
abbrev pub is_touched : List (ℕ × ℕ) → ℕ → Bool
is_touched [] position = false
is_touched (write ∷ writes) position = (nat_le write.0 position && nat_lt position (write.0 + write.1)) || is_touched writes position

-- What a stop can leave of a side: bytes of a length between, which are the synced ones where no write touched them.
pub record IsSideImage (side : SideState) (bytes : List ℕ) : Type 0 where
  pub no_shorter : side.low ≤ length bytes
  pub no_longer : length bytes ≤ side.high
  pub kept : (k : ℕ) → k < length bytes → k < length side.synced → is_touched side.touched k ≡ false → slice_index bytes k ≡ slice_index side.synced k

-- what a stop can leave of a disk: an image of each side
pub record IsImage (disk : DiskState) (image : Image) : Type 0 where
  pub a : IsSideImage disk.a image.a
  pub b : IsSideImage disk.b image.b

-- what reads of both sides give
abbrev pub reads_of : DiskState → Image
reads_of disk = record { a = disk.a.reads; b = disk.b.reads }

-- the only image is what reads give
abbrev pub IsDurable : DiskState → Type 0
IsDurable disk = (image : Image) → IsImage disk image → image ≡ reads_of disk

-- as many bytes as a read asks for, from an offset on
abbrev pub bytes_at : (at count : ℕ) → List ℕ → List ℕ
bytes_at at count bytes = take count (drop at bytes)

-- bytes with others written over them, and past their end
abbrev pub overwritten : (at : ℕ) (bytes old : List ℕ) → List ℕ
overwritten at bytes old = take at old ++ (bytes ++ drop (at + length bytes) old)

-- a side in which some bytes may be any
abbrev pub touching : (at count : ℕ) → SideState → SideState
touching at count side = record { reads = side.reads; synced = side.synced; low = side.low; high = max side.high (at + count); touched = (at, count) ∷ side.touched }

-- A side inside a write, and after a write that failed: each byte that it reaches may be any. A write that would end
-- at 2^63 or above reaches none.
abbrev pub writing : (at count : ℕ) → SideState → SideState
writing at count side = if nat_lt (at + count) (2 ^ 63) then touching at count side else side

-- a side after a write that answered Ok
abbrev pub written : (at : ℕ) (bytes : List ℕ) → SideState → SideState
written at bytes side = record { reads = overwritten at bytes side.reads; synced = side.synced; low = side.low; high = max side.high (at + length bytes); touched = (at, length bytes) ∷ side.touched }

-- a side inside a cut to no bytes, and after a cut that failed
abbrev pub cutting : SideState → SideState
cutting side = record { reads = side.reads; synced = side.synced; low = 0; high = side.high; touched = side.touched }

-- a side after a cut that answered Ok
abbrev pub shortened : SideState → SideState
shortened side = record { reads = []; synced = side.synced; low = 0; high = side.high; touched = side.touched }

-- a side of these bytes alone
abbrev pub settled : List ℕ → SideState
settled bytes = record { reads = bytes; synced = bytes; low = length bytes; high = length bytes; touched = [] }

-- a disk of which a stop leaves exactly these bytes
abbrev pub settled_disk : Image → DiskState
settled_disk image = record { a = settled image.a; b = settled image.b }

-- a side after a sync that answered Ok: its only image is what reads give
abbrev pub synced : SideState → SideState
synced side = settled side.reads

-- a side after a write and a sync that both answered Ok
abbrev pub written_through : (at : ℕ) (bytes : List ℕ) → SideState → SideState
written_through at bytes side = settled (overwritten at bytes side.reads)

-- a side after a cut and a sync that both answered Ok
abbrev pub cut_through : SideState → SideState
cut_through side = settled []

-- a stop can leave what reads give of a side, and nothing of 2^63 bytes or more
pub record IsSoundSide (side : SideState) : Type 0 where
  pub image : IsSideImage side side.reads
  pub short : side.high < 2 ^ 63

-- a stop can leave what reads give of both sides, and nothing of 2^63 bytes or more
pub record IsSound (disk : DiskState) : Type 0 where
  pub a : IsSoundSide disk.a
  pub b : IsSoundSide disk.b

-- the moments before this one, the first of them first, and this one
pub record Moments : Type 0 where
  pub past : List DiskState
  pub now : DiskState

-- all moments so far
abbrev pub all_of : Moments → List DiskState
all_of moments = moments.past ++ moments.now ∷ []

-- at each moment so far a stop can leave what reads give, and nothing of 2^63 bytes or more
abbrev pub AreSound : Moments → Type 0
AreSound moments = AllByRecursion IsSound (all_of moments)

-- whatever a stop can leave at a moment has P
abbrev pub EachImage : (Image → Type 0) → DiskState → Type 0
EachImage P disk = (image : Image) → IsImage disk image → P image

-- whatever a stop can leave now, it could leave before
abbrev pub IsWithin : (old new : DiskState) → Type 0
IsWithin old new = EachImage (IsImage old) new

-- Moments inside one call: from each to the next the images only become fewer, and at each there is one.
abbrev pub Shrinks : DiskState → List DiskState → Type 0
Shrinks during [] = Unit {0}
Shrinks during (disk ∷ later) = IsWithin during disk × IsImage disk (reads_of disk) × Shrinks disk later

-- One call of a disk: the moments inside it follow those before it, and their images are among those of `during`.
pub record Goes (during : DiskState) (old new : Moments) : Type 0 where
  pub inside : List DiskState
  pub added : all_of new ≡ all_of old ++ inside
  pub shrinks : Shrinks during inside
  pub within : IsWithin during new.now

-- Nothing was written: no image was added at any moment, and a call that answered Ok left what reads gave.
pub record Rests {T E : Type 0} (result : Result T E) (old new : Moments) : Type 0 where
  pub goes : Goes old.now old new
  pub same : OnOk result (new.now ≡ settled_disk (reads_of old.now))

-- the moments of a run after its first one
abbrev pub added_since : (old new : Moments) → List DiskState
added_since old new = drop (length (all_of old)) (all_of new)

-- the moments of a run: the one that it began at, those inside of calls and between them, and the present one
abbrev pub moments_since : (old new : Moments) → List DiskState
moments_since old new = old.now ∷ added_since old new

-- a run keeps the moments before it
abbrev pub Follows : (old new : Moments) → Type 0
Follows old new = all_of new ≡ all_of old ++ added_since old new

-- each image of each moment of a run has P
pub record AtAnyMoment (old new : Moments) (P : Image → Type 0) : Type 0 where
  pub follows : Follows old new
  pub each : AllByRecursion (EachImage P) (moments_since old new)

-- from each moment to the next: once each image has P, each image has it
abbrev pub StaysTrue : (Image → Type 0) → DiskState → List DiskState → Type 0
StaysTrue P disk [] = Unit {0}
StaysTrue P disk (next ∷ later) = (EachImage P disk → EachImage P next) × StaysTrue P next later

-- once each image of a moment of a run has P, each image of each later moment has it
pub record NeverLoses (old new : Moments) (P : Image → Type 0) : Type 0 where
  pub follows : Follows old new
  pub keeps : StaysTrue P old.now (added_since old new)

-- one of two values: what an image held before a call, or what it holds after it
abbrev pub IsEither : {T : Type 0} → T → T → T → Type 0
IsEither value one other = (value ≡ one) ⊎ (value ≡ other)

-- Opening a disk: images only become fewer until both sides are synced, and from then on each image has P. It may end
-- before that.
abbrev pub OpensWith : (old new : Moments) → (Image → Type 0) → Type 0
OpensWith old new P = Goes old.now old new ⊎ ((middle : Moments) × Goes old.now old middle × AtAnyMoment middle new P)
