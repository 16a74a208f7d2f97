-- What is given of a moment is an image of it.
use Rattle.std.proofs.Common.{◌≡◌, ℕ, ◌<◌, Bool, true, false, cond, List, [], ◌∷◌, ◌++◌, length, get_or, ap, ◌∙◌, arith}
use Rattle.std.specs.Prelude.{Contains, ◌&&◌, not, nat_lt, ◌==◌}
use Rattle.std.proofs.lemmas.Bool.{lt-ltb}
use Rattle.std.proofs.lemmas.List.Elements.{Contains-append_right, Contains-get_or}
use Rattle.outside.specs.Disks.{SideState, DiskState, Image, IsSideImage, IsSoundSide, IsSound, IsImage, is_touched}
use Rattle.memory_outside.specs.declared.logged.LoggedCall.{LoggedCall}
use Rattle.memory_outside.specs.Disks.{Log, disk_inside, disk_after, past_of, now_of, state_at, start_of, moment_of, filled_byte, IsFilled, AreFilled}
use Rattle.memory_outside.specs.DiskLaws.{disk_inside_sound, disk_after_sound, start_sound}

first_of : (x : DiskState) (xs : List DiskState) → Contains (x ∷ xs) x
first_of x xs = Contains-get_or (x ∷ xs) 0 x (omega arith)

one_of_two : (test : Bool) (one other : DiskState) (all : List DiskState) → Contains all one → Contains all other → Contains all (cond test one other)
one_of_two true one other all here there = here
one_of_two false one other all here there = there

-- the state at a moment is one of the moments
pub state_at_is : (kept : List LoggedCall) (moment : ℕ) (disk : DiskState) → Contains (past_of kept disk ++ now_of kept disk ∷ []) (state_at kept moment disk)
state_at_is [] moment disk = first_of disk []
state_at_is (call ∷ kept) moment disk =
    let rest = past_of kept (disk_after call disk) ++ now_of kept (disk_after call disk) ∷ [] in
    one_of_two (nat_lt call.number moment) _ _ (disk ∷ disk_inside call disk ∷ rest)
    (Contains-append_right (disk ∷ disk_inside call disk ∷ []) rest (state_at kept moment (disk_after call disk)) (state_at_is kept moment (disk_after call disk)))
    (one_of_two (call.number == moment) _ _ (disk ∷ disk_inside call disk ∷ rest)
    (Contains-append_right (disk ∷ []) (disk_inside call disk ∷ rest) (disk_inside call disk) (first_of (disk_inside call disk) rest))
    (first_of disk (disk_inside call disk ∷ rest)))

one_sound : (test : Bool) (one other : DiskState) → IsSound one → IsSound other → IsSound (cond test one other)
one_sound true one other here there = here
one_sound false one other here there = there

state_at_sound : (kept : List LoggedCall) (moment : ℕ) (disk : DiskState) → IsSound disk → IsSound (state_at kept moment disk)
state_at_sound [] moment disk sound = sound
state_at_sound (call ∷ kept) moment disk sound =
    one_sound (nat_lt call.number moment) _ _ (state_at_sound kept moment (disk_after call disk) (disk_after_sound call disk sound))
    (one_sound (call.number == moment) _ _ (disk_inside_sound call disk sound) sound)

pub moment_sound : (log : Log) (moment : ℕ) → IsSound (moment_of log moment)
moment_sound log moment = state_at_sound log.kept moment (start_of log.first) (start_sound log.first)

byte_is : (side : SideState) (fill k : ℕ) → k < length side.synced → is_touched side.touched k ≡ false → filled_byte side fill k ≡ get_or side.synced k 0
byte_is side fill k there out =
    ap (λ (b : Bool). cond (b && not (is_touched side.touched k)) (get_or side.synced k 0) fill) (lt-ltb k (length side.synced) there)
    ∙ ap (λ (b : Bool). cond (not b) (get_or side.synced k 0) fill) out

-- filled bytes are an image
filled_image : (side : SideState) (wanted fill : ℕ) (bytes : List ℕ) → IsSoundSide side → IsFilled side wanted fill bytes → IsSideImage side bytes
filled_image side wanted fill bytes sound filled = record {
  no_shorter = omega (arith, filled.size);
  no_longer = omega (arith, filled.size, sound.image.no_shorter, sound.image.no_longer);
  kept = λ k below there out. filled.bytes_are k below ∙ byte_is side fill k there out;
}

pub filled_disk_image : (log : Log) (moment wanted fill : ℕ) (image : Image) → AreFilled (moment_of log moment) wanted fill image → IsImage (moment_of log moment) image
filled_disk_image log moment wanted fill image filled =
    let sound : IsSound (moment_of log moment) = moment_sound log moment in
    record {
      a = filled_image (moment_of log moment).a wanted fill image.a sound.a filled.a;
      b = filled_image (moment_of log moment).b wanted fill image.b sound.b filled.b;
    }
