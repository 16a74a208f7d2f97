-- At each moment that a log tells, what reads gave is an image.
use Rattle.std.proofs.Common.{◌≡◌, ℕ, ◌+◌, ◌<◌, ◌≤◌, ◌^◌, Bool, true, false, cond, List, [], ◌∷◌, ◌++◌, length, refl, arith}
use Rattle.std.specs.Prelude.{nat_lt}
use Rattle.std.specs.List.{AllByRecursion}
use Rattle.std.proofs.lemmas.Bool.Decides.{nat_tests}
use Rattle.outside.specs.declared.disk.Side.{Side}
use Rattle.outside.specs.declared.disk.Side.TheVariants.{A, B}
use Rattle.outside.specs.Disks.{SideState, DiskState, Image, on_side, settled, synced, IsSoundSide, IsSound, AreSound}
use Rattle.outside.proofs.ImageLaws.{touching_sound, written_sound, cutting_sound, shortened_sound, settled_sound}
use Rattle.memory_outside.specs.declared.logged.Act.{Act}
use Rattle.memory_outside.specs.declared.logged.Act.TheVariants as act
use Rattle.memory_outside.specs.declared.logged.LoggedCall.{LoggedCall}
use Rattle.memory_outside.specs.Disks.{Log, is_allowed, write_inside, write_after, side_inside, side_after, disk_inside, disk_after, past_of, now_of, beginning, start_of, moments_of}

-- one of two sides
either_sound : (test : Bool) (one other : SideState) → (test ≡ true → IsSoundSide one) → IsSoundSide other → IsSoundSide (cond test one other)
either_sound true one other sound otherwise = sound refl
either_sound false one other sound otherwise = otherwise

-- a write that is allowed begins within what reads give
pub allowed_within : (at count : ℕ) (reads : List ℕ) → is_allowed at count reads ≡ true → at ≤ length reads
allowed_within at count reads test = grind (arith, nat_tests)

-- a write that is allowed ends below 2^63
pub allowed_fits : (at count : ℕ) (reads : List ℕ) → is_allowed at count reads ≡ true → at + count < 2 ^ 63
allowed_fits at count reads test = grind (arith, nat_tests)

write_inside_sound : (at : ℕ) (bytes : List ℕ) (side : SideState) → IsSoundSide side → IsSoundSide (write_inside at bytes side)
write_inside_sound at bytes side sound = either_sound (is_allowed at (length bytes) side.reads) _ side (λ test. touching_sound at (length bytes) side (allowed_fits at (length bytes) side.reads test) sound) sound

write_after_sound : (done : Bool) (at : ℕ) (bytes : List ℕ) (side : SideState) → IsSoundSide side → IsSoundSide (write_after done at bytes side)
write_after_sound true at bytes side sound = either_sound (is_allowed at (length bytes) side.reads) _ side (λ test. written_sound at bytes side (allowed_within at (length bytes) side.reads test) (allowed_fits at (length bytes) side.reads test) sound) sound
write_after_sound false at bytes side sound = write_inside_sound at bytes side sound

synced_sound : (side : SideState) → IsSoundSide side → IsSoundSide (synced side)
synced_sound side sound = settled_sound side.reads (omega (arith, sound.image.no_longer, sound.short))

-- a sound side is sound inside each call, too
pub side_inside_sound : (call : Act) (side : SideState) → IsSoundSide side → IsSoundSide (side_inside call side)
side_inside_sound (act.Write at bytes) side sound = write_inside_sound at bytes side sound
side_inside_sound act.Cut side sound = cutting_sound side sound
side_inside_sound act.Sync side sound = sound

-- a sound side is sound after each call, done or failed
pub side_after_sound : (done : Bool) (call : Act) (side : SideState) → IsSoundSide side → IsSoundSide (side_after done call side)
side_after_sound done (act.Write at bytes) side sound = write_after_sound done at bytes side sound
side_after_sound true act.Cut side sound = shortened_sound side sound
side_after_sound false act.Cut side sound = cutting_sound side sound
side_after_sound true act.Sync side sound = synced_sound side sound
side_after_sound false act.Sync side sound = sound

on_side_sound : (side : Side) (change : SideState → SideState) (disk : DiskState) → ((s : SideState) → IsSoundSide s → IsSoundSide (change s)) → IsSound disk → IsSound (on_side side change disk)
on_side_sound A change disk keeps sound = record { a = keeps disk.a sound.a; b = sound.b }
on_side_sound B change disk keeps sound = record { a = sound.a; b = keeps disk.b sound.b }

-- a sound disk is sound inside each call, too
pub disk_inside_sound : (kept : LoggedCall) (disk : DiskState) → IsSound disk → IsSound (disk_inside kept disk)
disk_inside_sound kept disk sound = on_side_sound kept.side (side_inside kept.act) disk (side_inside_sound kept.act) sound

-- a sound disk is sound after each call, done or failed
pub disk_after_sound : (kept : LoggedCall) (disk : DiskState) → IsSound disk → IsSound (disk_after kept disk)
disk_after_sound kept disk sound = on_side_sound kept.side (side_after kept.done kept.act) disk (side_after_sound kept.done kept.act) sound

beginning_sound : (bytes : List ℕ) → IsSoundSide (beginning bytes)
beginning_sound bytes = either_sound (nat_lt (length bytes) (2 ^ 63)) (settled bytes) (settled []) (λ test. settled_sound bytes (grind (arith, nat_tests))) (settled_sound [] (omega arith))

-- a disk is sound before its first call
pub start_sound : (first : Image) → IsSound (start_of first)
start_sound first = record { a = beginning_sound first.a; b = beginning_sound first.b }

all_sound : (kept : List LoggedCall) (disk : DiskState) → IsSound disk → AllByRecursion IsSound (past_of kept disk ++ now_of kept disk ∷ [])
all_sound [] disk sound = (sound, tt)
all_sound (call ∷ kept) disk sound = (sound, (disk_inside_sound call disk sound, all_sound kept (disk_after call disk) (disk_after_sound call disk sound)))

-- at each moment of a log the disk is sound: what reads gave is an image
pub log_sound : (log : Log) → AreSound (moments_of log)
log_sound log = all_sound log.kept (start_of log.first) (start_sound log.first)

now_sound_from : (kept : List LoggedCall) (disk : DiskState) → IsSound disk → IsSound (now_of kept disk)
now_sound_from [] disk sound = sound
now_sound_from (call ∷ kept) disk sound = now_sound_from kept (disk_after call disk) (disk_after_sound call disk sound)

-- after all calls of a log the disk is sound: what reads give is an image
pub now_sound : (log : Log) → IsSound (moments_of log).now
now_sound log = now_sound_from log.kept (start_of log.first) (start_sound log.first)
