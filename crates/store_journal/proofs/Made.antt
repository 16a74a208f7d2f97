-- Making a side.
use Rattle.std.proofs.Common.{◌≡◌, ℕ, ◌+◌, List, [], ◌∷◌, ◌++◌, length, drop, sym, ap, subst, ◌∙◌, arith, inl, inr}
use Rattle.std.specs.List.{AllByRecursion}
use Rattle.std.proofs.lemmas.Bool.{cases_eq}
use Rattle.std.proofs.lemmas.List.{append-nil, drop_all, take_all}
use Rattle.outside.specs.declared.disk.Side.{Side}
use Rattle.outside.specs.declared.disk.Side.TheVariants.{A, B}
use Rattle.outside.specs.Disks.{DiskState, Image, IsEither, IsImage, EachImage, on_side, settled, overwritten, cutting, writing}
use Rattle.store_journal.specs.Payloads.{payloads}
use Rattle.store_journal.specs.Steps.{Step, making, write_step, cut_step, then_steps, last_moment}
use Rattle.store_journal.proofs.Counting.{paired, Leaves, first_dead, none_dead, short_dead, zero_dead}
use Rattle.store_journal.proofs.SideImages.{states, each_of_one, paired_image, cut_image, byte_image, first_image, dead_image}
use Rattle.store_journal.proofs.Went.{HandsOn}

-- the steps of making a side from the fourth on, from the third on, and from the second on
abbrev pub from_fourth : Side → DiskState → List Step
from_fourth side full = write_step side 0 (1 ∷ []) full ∷ []

abbrev pub from_third : Side → List ℕ → DiskState → List Step
from_third side bytes dead = then_steps (write_step side 1 bytes dead) (from_fourth side)

abbrev pub from_second : Side → List ℕ → DiskState → List Step
from_second side bytes emptied = then_steps (write_step side 0 (0 ∷ []) emptied) (from_third side bytes)

-- what stands once all but the first byte are written
full_is : (bytes : List ℕ) → overwritten 1 bytes (0 ∷ []) ≡ 0 ∷ bytes
full_is bytes =
    let none : drop (1 + length bytes) (0 ∷ []) ≡ [] = drop_all (1 + length bytes) (0 ∷ []) (omega arith) in
    ap (λ (l : List ℕ). 0 ∷ (bytes ++ l)) none ∙ ap (λ (l : List ℕ). 0 ∷ l) (append-nil bytes)

-- after the last step the side is the 1 and the bytes, whatever it was
pub made_last : (side : Side) (bytes : List ℕ) (disk : DiskState) → last_moment disk (making side bytes disk) ≡ on_side side (λ _. settled (1 ∷ bytes)) disk
unfolding making last_moment
made_last A bytes disk = ap (λ (l : List ℕ). record { a = settled (overwritten 0 (1 ∷ []) l); b = disk.b }) (full_is bytes)
made_last B bytes disk = ap (λ (l : List ℕ). record { a = disk.a; b = settled (overwritten 0 (1 ∷ []) l) }) (full_is bytes)

-- the same, step by step
pub made_by : (side : Side) (bytes : List ℕ) (disk emptied dead full new : DiskState) → emptied ≡ (cut_step side disk).after → dead ≡ (write_step side 0 (0 ∷ []) emptied).after → full ≡ (write_step side 1 bytes dead).after → new ≡ (write_step side 0 (1 ∷ []) full).after → new ≡ on_side side (λ _. settled (1 ∷ bytes)) disk
unfolding making last_moment
made_by side bytes disk emptied dead full new first second third fourth = rw (fourth, third, second, first) (made_last side bytes disk)

-- the steps of making a side, by what it is once all but the first byte are written
abbrev steps_by : Side → (bytes one other full : List ℕ) → List Step
steps_by side bytes one other full =
    record { during = states side (cutting (settled one)) (settled other); after = states side (settled []) (settled other) }
    ∷ record { during = states side (writing 0 1 (settled [])) (settled other); after = states side (settled (0 ∷ [])) (settled other) }
    ∷ record { during = states side (writing 1 (length bytes) (settled (0 ∷ []))) (settled other); after = states side (settled full) (settled other) }
    ∷ record { during = states side (writing 0 1 (settled full)) (settled other); after = states side (settled (overwritten 0 (1 ∷ []) full)) (settled other) }
    ∷ []

-- the steps where the disk is settled
abbrev pub made_steps : Side → (bytes one other : List ℕ) → List Step
made_steps side bytes one other = steps_by side bytes one other (0 ∷ bytes)

-- these are the steps
pub making_is : (side : Side) (bytes one other : List ℕ) → making side bytes (states side (settled one) (settled other)) ≡ made_steps side bytes one other
unfolding making
making_is A bytes one other = ap (steps_by A bytes one other) (full_is bytes)
making_is B bytes one other = ap (steps_by B bytes one other) (full_is bytes)

-- the payloads are the old ones or the new ones
abbrev pub HasEither : (form : ℕ) (old new : List (List ℕ)) → Image → Type 0
HasEither form old new image = IsEither (payloads form image) old new

-- where both are the same, the payloads are these
pub either_same : (form : ℕ) (held : List (List ℕ)) (image : Image) → HasEither form held held image → payloads form image ≡ held
either_same form held image either = elim either [
  | inl is ↦ is
  | inr is ↦ is
]

-- the payloads are the new ones
abbrev pub HasNew : (form : ℕ) (new : List (List ℕ)) → Image → Type 0
HasNew form new image = payloads form image ≡ new

-- inside of the last step
last_byte : (form : ℕ) (side : Side) (bytes one other : List ℕ) (old new : List (List ℕ)) → Leaves form side one other old → payloads form (paired side (1 ∷ bytes) other) ≡ new → (byte : ℕ) → HasEither form old new (paired side (byte ∷ bytes) other)
last_byte form side bytes one other old new leaves made byte =
    elim (cases_eq byte 1) [
      | inl is ↦ inr (ap (λ (n : ℕ). payloads form (paired side (n ∷ bytes) other)) is ∙ made)
      | inr differs ↦ inl (leaves.dead (byte ∷ bytes) (first_dead form byte bytes differs))
    ]

-- During each step of making a side, the payloads are the old ones or the payloads of the finished side.
pub making_either : (form : ℕ) (side : Side) (bytes one other : List ℕ) (old new : List (List ℕ)) → Leaves form side one other old → payloads form (paired side (1 ∷ bytes) other) ≡ new → AllByRecursion (λ (step : Step). EachImage (HasEither form old new) step.during) (made_steps side bytes one other)
making_either form side bytes one other old new leaves made =
    let P = HasEither form old new in
    let shown : List ℕ → List (List ℕ) = λ left. payloads form (paired side left other) in (
      each_of_one P side (cutting (settled one)) other (λ left is. inl (ap shown (cut_image one left is) ∙ leaves.prefix (length left))),
      (
        each_of_one P side (writing 0 1 (settled [])) other (λ left is. inl (leaves.dead left (short_dead form left (byte_image left is)))),
        (
          each_of_one P side (writing 1 (length bytes) (settled (0 ∷ []))) other (λ left is.
              let parts = dead_image (length bytes) left is in
              inl (ap shown parts.1 ∙ leaves.dead (0 ∷ parts.0) (zero_dead form parts.0))),
          (
            each_of_one P side (writing 0 1 (settled (0 ∷ bytes))) other (λ left is.
                let parts = first_image 0 bytes left is in
                subst (λ (l : List ℕ). P (paired side l other)) (sym parts.1) (last_byte form side bytes one other old new leaves made parts.0)),
            tt,
          ),
        ),
      ),
    )

-- Where an image has the old payloads, each can only have the new ones if these are the same.
pub handing : (form : ℕ) (old new : List (List ℕ)) (before during : DiskState) (image : Image) → IsImage before image → payloads form image ≡ old → EachImage (HasEither form old new) during → EachImage (HasNew form new) before → EachImage (HasNew form new) during
handing form old new before during image is held each had later there =
    elim (each later there) [
      | inl same ↦ same ∙ sym held ∙ had image is
      | inr same ↦ same
    ]

-- so each step hands on that each image has the new ones
pub making_hands : (form : ℕ) (side : Side) (bytes one other : List ℕ) (old new : List (List ℕ)) → Leaves form side one other old → payloads form (paired side (1 ∷ bytes) other) ≡ new → HandsOn (HasNew form new) (states side (settled one) (settled other)) (made_steps side bytes one other)
making_hands form side bytes one other old new leaves made =
    let all = making_either form side bytes one other old new leaves made in
    let dead : (left : List ℕ) → payloads form (paired side (0 ∷ left) other) ≡ old = λ left. leaves.dead (0 ∷ left) (zero_dead form left) in (
      handing form old new _ _ (paired side one other) (paired_image side one other) (ap (λ (l : List ℕ). payloads form (paired side l other)) (sym (take_all (length one) one (omega arith))) ∙ leaves.prefix (length one)) all.0,
      (
        handing form old new _ _ (paired side [] other) (paired_image side [] other) (leaves.dead [] (none_dead form)) all.1.0,
        (
          handing form old new _ _ (paired side (0 ∷ []) other) (paired_image side (0 ∷ []) other) (dead []) all.1.1.0,
          (
            handing form old new _ _ (paired side (0 ∷ bytes) other) (paired_image side (0 ∷ bytes) other) (dead bytes) all.1.1.1.0,
            tt,
          ),
        ),
      ),
    )
