-- What a stop can leave of a side that a step changes, where the other side is settled.
use Rattle.std.proofs.Common.{◌≡◌, ℕ, ◌≤◌, List, [], ◌∷◌, length, take, refl, sym, ap, subst, ◌∙◌, arith, length-take}
use Rattle.std.proofs.lemmas.Grind.{same_number_lists}
use Rattle.std.proofs.lemmas.List.{get_or-take}
use Rattle.outside.specs.declared.disk.Side.{Side}
use Rattle.outside.specs.declared.disk.Side.TheVariants.{A, B}
use Rattle.outside.specs.Disks.{DiskState, SideState, Image, IsSideImage, IsImage, EachImage, image_side, settled, settled_disk, writing, cutting}
use Rattle.outside.proofs.ImageLaws.{settled_only}
use Rattle.store_journal.specs.Journals.{other_side}
use Rattle.store_journal.proofs.Counting.{paired}
use Rattle.store_journal.proofs.Settled.{settled_image}
use Rattle.store_journal.proofs.Torn.{side_torn, torn_after}

-- a disk by one of its sides and the other
abbrev pub states : Side → (one other : SideState) → DiskState
states A one other = record { a = one; b = other }
states B one other = record { a = other; b = one }

pub settled_states : (side : Side) (image : Image) → settled_disk image ≡ states side (settled (image_side side image)) (settled (image_side (other_side side) image))
settled_states A image = refl
settled_states B image = refl

pub states_settled : (side : Side) (one other : List ℕ) → states side (settled one) (settled other) ≡ settled_disk (paired side one other)
states_settled A one other = refl
states_settled B one other = refl

-- where the other side is settled, what each image of the one gives is what each image has
pub each_of_one : (P : Image → Type 0) (side : Side) (one : SideState) (other : List ℕ) → ((bytes : List ℕ) → IsSideImage one bytes → P (paired side bytes other)) → EachImage P (states side one (settled other))
each_of_one P A one other each image is = subst (λ (b : List ℕ). P (record { a = image.a; b = b })) (sym (settled_only other image.b is.b)) (each image.a is.a)
each_of_one P B one other each image is = subst (λ (a : List ℕ). P (record { a = a; b = image.b })) (sym (settled_only other image.a is.a)) (each image.b is.b)

-- and so it is with the sides in each other's place
pub each_of_other : (P : Image → Type 0) (side : Side) (one : List ℕ) (other : SideState) → ((bytes : List ℕ) → IsSideImage other bytes → P (paired side one bytes)) → EachImage P (states side (settled one) other)
each_of_other P A one other each image is = subst (λ (a : List ℕ). P (record { a = a; b = image.b })) (sym (settled_only one image.a is.a)) (each image.b is.b)
each_of_other P B one other each image is = subst (λ (b : List ℕ). P (record { a = image.a; b = b })) (sym (settled_only one image.b is.b)) (each image.a is.a)

-- settled bytes are an image
pub paired_image : (side : Side) (one other : List ℕ) → IsImage (states side (settled one) (settled other)) (paired side one other)
paired_image side one other = subst (λ (disk : DiskState). IsImage disk (paired side one other)) (sym (states_settled side one other)) (settled_image (paired side one other))

-- a cut leaves a prefix
pub cut_image : (one bytes : List ℕ) → IsSideImage (cutting (settled one)) bytes → bytes ≡ take (length bytes) one
cut_image one bytes is =
    let size : length bytes ≤ length one = omega (arith, is.no_longer) in
    same_number_lists bytes (take (length bytes) one) (omega (arith, size, length-take (length bytes) one))
    (λ k below. is.kept k below (omega (arith, size)) refl ∙ sym (get_or-take (length bytes) one k 0 below))

-- a byte written where there was none leaves at most one
pub byte_image : (bytes : List ℕ) → IsSideImage (writing 0 1 (settled [])) bytes → length bytes ≤ 18
byte_image bytes is = omega (arith, is.no_longer)

-- a write of the first byte may leave any first byte, with what stood after it
pub first_image : (first : ℕ) (rest bytes : List ℕ) → IsSideImage (writing 0 1 (settled (first ∷ rest))) bytes → (byte : ℕ) × (bytes ≡ byte ∷ rest)
first_image first rest [] is = absurd (omega (arith, is.no_shorter))
first_image first rest (byte ∷ bytes) is =
    let torn = side_torn 0 1 (first ∷ rest) (byte ∷ bytes) is in
    (byte, ap (λ (l : List ℕ). byte ∷ l) (torn_after 1 0 1 (first ∷ rest) (byte ∷ bytes) torn (omega arith) (omega arith)))

-- a write after a 0 leaves the 0 before it
pub dead_image : (count : ℕ) (bytes : List ℕ) → IsSideImage (writing 1 count (settled (0 ∷ []))) bytes → (rest : List ℕ) × (bytes ≡ 0 ∷ rest)
dead_image count [] is = absurd (omega (arith, (side_torn 1 count (0 ∷ []) [] is).no_shorter))
dead_image count (byte ∷ rest) is =
    let torn = side_torn 1 count (0 ∷ []) (byte ∷ rest) is in
    (rest, ap (λ (n : ℕ). n ∷ rest) (torn.before 0 (omega arith) (omega arith)))
