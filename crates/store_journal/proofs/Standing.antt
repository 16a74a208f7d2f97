-- A settled disk, one side of which is made.
use Rattle.std.proofs.Common.{◌≡◌, ℕ, ◌+◌, ◌<◌, ◌^◌, List, ◌∷◌, length, All, Some, refl, sym, ap, subst, ◌∙◌, inl, take, arith}
use Rattle.std.proofs.lemmas.List.{take_all}
use Rattle.std.specs.List.{AllByRecursion, flat_map}
use Rattle.outside.specs.declared.disk.Side.{Side}
use Rattle.outside.specs.declared.disk.Side.TheVariants.{A, B}
use Rattle.outside.specs.Disks.{DiskState, Image, Moments, EachImage, AtAnyMoment, NeverLoses, image_side, on_side, settled, settled_disk}
use Rattle.store_journal.specs.Payloads.{counting, is_live, generation_of, payloads, payloads_in, block, side_bytes}
use Rattle.store_journal.specs.Journals.{JournalState, IsInStep, other_side}
use Rattle.store_journal.specs.Steps.{Step, Went, making}
use Rattle.store_journal.proofs.Counting.{Leaves, paired, paired_again, paired_one, counting_live, leaves_other, higher_counts}
use Rattle.store_journal.proofs.Made.{HasEither, HasNew, made_steps, making_is, making_either, making_hands}
use Rattle.store_journal.proofs.Settled.{settled_each}
use Rattle.store_journal.proofs.SideBytes.{side_generation, side_length, side_live}
use Rattle.store_journal.proofs.Headers.{side_closed, side_payloads}
use Rattle.store_journal.proofs.Kept.{payloads_of_side}
use Rattle.store_journal.proofs.SideImages.{settled_states}
use Rattle.store_journal.proofs.Went.{HandsOn, went_moments, went_loses}

-- a side of an image that can be torn
abbrev pub LeavesImage : (form : ℕ) (side : Side) (image : Image) (held : List (List ℕ)) → Type 0
LeavesImage form side image held = Leaves form side (image_side side image) (image_side (other_side side) image) held

-- an image with other bytes on one side
abbrev pub with_side : Side → List ℕ → Image → Image
with_side side bytes image = paired side bytes (image_side (other_side side) image)

pub steps_are : (side : Side) (bytes : List ℕ) (image : Image) (disk : DiskState) → disk ≡ settled_disk image → making side bytes disk ≡ made_steps side bytes (image_side side image) (image_side (other_side side) image)
steps_are side bytes image disk is = ap (making side bytes) (is ∙ settled_states side image) ∙ making_is side bytes (image_side side image) (image_side (other_side side) image)

held_before : (form : ℕ) (side : Side) (image : Image) (held : List (List ℕ)) → LeavesImage form side image held → payloads form image ≡ held
held_before form side image held leaves =
    let all : take (length (image_side side image)) (image_side side image) ≡ image_side side image = take_all (length (image_side side image)) (image_side side image) (omega arith) in
    ap (payloads form) (paired_again side image)
    ∙ ap (λ (l : List ℕ). payloads form (paired side l (image_side (other_side side) image))) (sym all)
    ∙ leaves.prefix (length (image_side side image))

-- At any moment of making a side the payloads are the old ones, or those of the made side.
pub making_moments : (form : ℕ) (side : Side) (bytes : List ℕ) (image : Image) (held made : List (List ℕ)) (old new : Moments) → old.now ≡ settled_disk image → LeavesImage form side image held → payloads form (with_side side (1 ∷ bytes) image) ≡ made → Went (making side bytes old.now) old new → AtAnyMoment old new (HasEither form held made)
making_moments form side bytes image held made old new is leaves gives went =
    let P = HasEither form held made in
    let before : EachImage P old.now = subst (EachImage P) (sym is) (settled_each P image (inl (held_before form side image held leaves))) in
    went_moments (making side bytes old.now) old new P went before
    (subst (AllByRecursion (λ (step : Step). EachImage P step.during)) (sym (steps_are side bytes image old.now is)) (making_either form side bytes (image_side side image) (image_side (other_side side) image) held made leaves gives))

-- Once each image has those of the made side, each image has them.
pub making_loses : (form : ℕ) (side : Side) (bytes : List ℕ) (image : Image) (held made : List (List ℕ)) (old new : Moments) → old.now ≡ settled_disk image → LeavesImage form side image held → payloads form (with_side side (1 ∷ bytes) image) ≡ made → Went (making side bytes old.now) old new → NeverLoses old new (HasNew form made)
making_loses form side bytes image held made old new is leaves gives went =
    let P = HasNew form made in
    let hands = making_hands form side bytes (image_side side image) (image_side (other_side side) image) held made leaves gives in
    let from_there : HandsOn P old.now (made_steps side bytes (image_side side image) (image_side (other_side side) image)) = subst (λ (d : DiskState). HandsOn P d (made_steps side bytes (image_side side image) (image_side (other_side side) image))) (sym (is ∙ settled_states side image)) hands in
    went_loses (making side bytes old.now) old new P went (subst (HandsOn P old.now) (sym (steps_are side bytes image old.now is)) from_there)

-- a side can be torn where the other counts
pub leaves_counted : (form : ℕ) (side : Side) (image : Image) → counting form image ≡ Some (other_side side) → LeavesImage form side image (payloads form image)
leaves_counted form side image counts =
    let again = paired_again side image in
    subst (LeavesImage form side image) (ap (payloads form) (sym again)) (leaves_other form side (image_side side image) (image_side (other_side side) image) (ap (counting form) (sym again) ∙ counts))

on_settled : (side : Side) (bytes : List ℕ) (image : Image) → on_side side (λ _. settled bytes) (settled_disk image) ≡ settled_disk (with_side side bytes image)
on_settled A bytes image = refl
on_settled B bytes image = refl

-- what the disk is once the side is made
pub made_disk : (side : Side) (bytes : List ℕ) (image : Image) (old new : DiskState) → old ≡ settled_disk image → new ≡ on_side side (λ _. settled bytes) old → new ≡ settled_disk (with_side side bytes image)
made_disk side bytes image old new is made = made ∙ ap (on_side side (λ _. settled bytes)) is ∙ on_settled side bytes image

-- a made side that counts has its payloads
pub made_payloads : (form generation : ℕ) (side : Side) (one : List ℕ) (image : Image) (ps : List (List ℕ)) → one ≡ side_bytes form generation ps → All (λ (p : List ℕ). length p < 2 ^ 32) ps → counting form (with_side side one image) ≡ Some side → payloads form (with_side side one image) ≡ ps
made_payloads form generation side one image ps is small counts =
    payloads_of_side form side (with_side side one image) counts
    ∙ ap payloads_in (paired_one side one (image_side (other_side side) image) ∙ is)
    ∙ side_payloads form generation ps small

-- and the journal of it is in step
pub made_in_step : (journal : JournalState) (one : List ℕ) (image : Image) (ps : List (List ℕ)) → one ≡ side_bytes journal.form journal.generation ps → All (λ (p : List ℕ). length p < 2 ^ 32) ps → journal.generation < 2 ^ 64 → journal.len ≡ length one → counting journal.form (with_side journal.live one image) ≡ Some journal.live → IsInStep journal (settled_disk (with_side journal.live one image))
made_in_step journal one image ps is small below len counts =
    let shown : image_side journal.live (with_side journal.live one image) ≡ side_bytes journal.form journal.generation ps = paired_one journal.live one (image_side (other_side journal.live) image) ∙ is in
    let pays = made_payloads journal.form journal.generation journal.live one image ps is small counts in
    let size : journal.len ≡ 19 + length (flat_map block ps) = len ∙ ap length is ∙ side_length journal.form journal.generation ps in
    record {
      settled = refl;
      counts = counts;
      generation = ap generation_of shown ∙ side_generation journal.form journal.generation ps below;
      closed = rw (size, pays, shown) (side_closed journal.form journal.generation ps small);
    }

-- where the other side counts, a made side of a higher generation counts in its place
pub replaced_counts : (form generation : ℕ) (side : Side) (one : List ℕ) (image : Image) (ps : List (List ℕ)) → one ≡ side_bytes form generation ps → generation < 2 ^ 64 → counting form image ≡ Some (other_side side) → generation_of (image_side (other_side side) image) < generation → counting form (with_side side one image) ≡ Some side
replaced_counts form generation side one image ps is below counts higher =
    let gives : generation_of one ≡ generation = ap generation_of is ∙ side_generation form generation ps below in
    higher_counts form side one (image_side (other_side side) image) (ap (is_live form) is ∙ side_live form generation ps) (counting_live form image (other_side side) counts)
    (subst (λ (n : ℕ). generation_of (image_side (other_side side) image) < n) (sym gives) higher)
