-- What a disk over memory holds: the bytes that it began with, and the calls since then that may have changed it.
use Rattle.std.specs.Prelude.{◌≡◌, ◌⊎◌, ℕ, ◌+◌, ◌^◌, ◌<◌, nat_le, nat_lt, ◌==◌, min, max, Bool, true, false, not, ◌&&◌, List, [], ◌∷◌, ◌++◌, length, slice_index, Result, Ok, Err, if◌then◌else◌}
use Rattle.outside.specs.declared.disk.Side.{Side}
use Rattle.outside.specs.declared.disk.Side.TheVariants.{A, B}
use Rattle.outside.specs.Disks.{SideState, DiskState, Image, Moments, on_side, is_touched, overwritten, touching, written, cutting, shortened, settled, synced}
use Rattle.base.specs.declared.memory.DiskFailed.{DiskFailed}
use Rattle.memory_outside.specs.declared.failing.Calls.{Calls}
use Rattle.memory_outside.specs.declared.logged.Act.{Act}
use Rattle.memory_outside.specs.declared.logged.Act.TheVariants as act
use Rattle.memory_outside.specs.declared.logged.LoggedCall.{LoggedCall}
use Rattle.memory_outside.specs.Failing.{fails_next}

-- whether a write begins at or before the end of what reads give, and ends below 2^63
abbrev pub is_allowed : (at count : ℕ) → List ℕ → Bool
is_allowed at count reads = nat_le at (length reads) && nat_lt (at + count) (2 ^ 63)

-- a side inside a write, and after one that failed
abbrev pub write_inside : (at : ℕ) (bytes : List ℕ) → SideState → SideState
write_inside at bytes side = if is_allowed at (length bytes) side.reads then touching at (length bytes) side else side

-- a side after a write that was done, or that failed
abbrev pub write_after : Bool → (at : ℕ) (bytes : List ℕ) → SideState → SideState
write_after true at bytes side = if is_allowed at (length bytes) side.reads then written at bytes side else side
write_after false at bytes side = write_inside at bytes side

-- a side inside a call
abbrev pub side_inside : Act → SideState → SideState
side_inside (act.Write at bytes) side = write_inside at bytes side
side_inside act.Cut side = cutting side
side_inside act.Sync side = side

-- a side after a call that was done, or that failed
abbrev pub side_after : Bool → Act → SideState → SideState
side_after done (act.Write at bytes) side = write_after done at bytes side
side_after done act.Cut side = if done then shortened side else cutting side
side_after done act.Sync side = if done then synced side else side

-- what reads give after a call that was done, or that failed
abbrev pub reads_after : Bool → Act → List ℕ → List ℕ
reads_after false call reads = reads
reads_after true (act.Write at bytes) reads = if is_allowed at (length bytes) reads then overwritten at bytes reads else reads
reads_after true act.Cut reads = []
reads_after true act.Sync reads = reads

-- the bytes of both sides with those of one changed
abbrev pub on_bytes : Side → (List ℕ → List ℕ) → Image → Image
on_bytes A change image = record { a = change image.a; b = image.b }
on_bytes B change image = record { a = image.a; b = change image.b }

-- the disk inside a call of one of its sides
abbrev pub disk_inside : LoggedCall → DiskState → DiskState
disk_inside kept disk = on_side kept.side (side_inside kept.act) disk

-- the disk after a call of one of its sides, done or failed
abbrev pub disk_after : LoggedCall → DiskState → DiskState
disk_after kept disk = on_side kept.side (side_after kept.done kept.act) disk

-- the moments before the last call ended: between two calls, and inside of each
abbrev pub past_of : List LoggedCall → DiskState → List DiskState
past_of [] disk = []
past_of (kept ∷ rest) disk = disk ∷ disk_inside kept disk ∷ past_of rest (disk_after kept disk)

-- the disk after calls
abbrev pub now_of : List LoggedCall → DiskState → DiskState
now_of [] disk = disk
now_of (kept ∷ rest) disk = now_of rest (disk_after kept disk)

-- The disk inside the call of a number, where it may have changed the disk; otherwise the disk after the calls
-- before that number.
abbrev pub state_at : List LoggedCall → ℕ → DiskState → DiskState
state_at [] moment disk = disk
state_at (kept ∷ rest) moment disk = if nat_lt kept.number moment then state_at rest moment (disk_after kept disk) else (if kept.number == moment then disk_inside kept disk else disk)

-- the bytes at first, and the calls since then, in order
pub record Log : Type 0 where
  pub first : Image
  pub kept : List LoggedCall

-- a side that begins with these bytes; an empty one if there are 2^63 bytes or more
abbrev pub beginning : List ℕ → SideState
beginning bytes = if nat_lt (length bytes) (2 ^ 63) then settled bytes else settled []

-- a disk that begins with the bytes of an image
abbrev pub start_of : Image → DiskState
start_of first = record { a = beginning first.a; b = beginning first.b }

-- the moments that a log tells
abbrev pub moments_of : Log → Moments
moments_of log = record { past = past_of log.kept (start_of log.first); now = now_of log.kept (start_of log.first) }

-- the moment inside the call of a number
abbrev pub moment_of : Log → ℕ → DiskState
moment_of log moment = state_at log.kept moment (start_of log.first)

-- a disk: its log and its calls
pub record HeldDisk : Type 0 where
  pub log : Log
  pub calls : Calls

-- the call of this number that a disk goes through next: it is done unless it is to fail
abbrev pub next_kept : HeldDisk → Side → Act → LoggedCall
next_kept disk side act = record { number = disk.calls.made; side = side; act = act; done = not (fails_next disk.calls) }

-- a log with one call more
abbrev pub with_call : LoggedCall → Log → Log
with_call call log = record { first = log.first; kept = log.kept ++ call ∷ [] }

-- What a call that failed leaves. One that was to be done found no memory, or would end at 2^63 or above: the log is
-- unchanged. One that was to fail is in the log and counts in what a stop can leave, unless it was so too.
abbrev pub LogsFault : (done : Bool) → LoggedCall → Log → Log → Type 0
LogsFault true call old new = new ≡ old
LogsFault false call old new = (new ≡ with_call call old) ⊎ (new ≡ old)

-- the log after a call that may change the disk: after Ok it has the call, with its number
abbrev pub LogsCall : {T : Type 0} → Result T DiskFailed → LoggedCall → Log → Log → Type 0
LogsCall (Ok value) call old new = new ≡ with_call call old
LogsCall (Err fault) call old new = LogsFault call.done call old new

-- the length nearest to one that is asked for
abbrev pub nearest : SideState → ℕ → ℕ
nearest side wanted = max side.low (min side.high wanted)

-- the byte at a position: the synced one where no write touched it, else the one to fill with
abbrev pub filled_byte : SideState → ℕ → ℕ → ℕ
filled_byte side fill k = if nat_lt k (length side.synced) && not (is_touched side.touched k) then slice_index side.synced k else fill

-- bytes of the nearest length, whose free ones are filled
pub record IsFilled (side : SideState) (wanted fill : ℕ) (bytes : List ℕ) : Type 0 where
  pub size : length bytes ≡ nearest side wanted
  pub bytes_are : (k : ℕ) → k < length bytes → slice_index bytes k ≡ filled_byte side fill k

-- both sides have bytes of the nearest length, whose free ones are filled
pub record AreFilled (disk : DiskState) (wanted fill : ℕ) (image : Image) : Type 0 where
  pub a : IsFilled disk.a wanted fill image.a
  pub b : IsFilled disk.b wanted fill image.b
