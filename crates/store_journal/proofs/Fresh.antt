-- Making a side without payloads, where neither side is live.
use Rattle.std.proofs.Common.{◌≡◌, ℕ, ◌<◌, ◌^◌, Bool, false, List, [], ◌∷◌, length, None, Some, sym, ap, subst, ◌∙◌, arith}
use Rattle.std.proofs.lemmas.List.Elements.{All-nil}
use Rattle.outside.specs.declared.disk.Side.{Side}
use Rattle.outside.specs.declared.disk.Side.TheVariants.{A}
use Rattle.outside.specs.Disks.{DiskState, Image, Moments, AtAnyMoment, image_side, reads_of, on_side, settled, settled_disk}
use Rattle.outside.proofs.MomentLaws.{weaker_moments}
use Rattle.store_journal.specs.Payloads.{counting, is_live, payloads, side_bytes}
use Rattle.store_journal.specs.Journals.{JournalState, IsInStep, other_side}
use Rattle.store_journal.specs.Steps.{Went, making}
use Rattle.store_journal.proofs.Counting.{only_counts, counting_none, payloads_none, leaves_none}
use Rattle.store_journal.proofs.Made.{HasEither, either_same}
use Rattle.store_journal.proofs.SideBytes.{side_live, side_length}
use Rattle.store_journal.proofs.Standing.{with_side, making_moments, made_disk, made_payloads, made_in_step}

-- the bytes of a side without payloads, which counts alone
pub empty_counts : (form : ℕ) (side : Side) (one : List ℕ) (image : Image) → one ≡ side_bytes form 1 [] → is_live form (image_side (other_side side) image) ≡ false → counting form (with_side side one image) ≡ Some side
empty_counts form side one image is dead = only_counts form side one (image_side (other_side side) image) (ap (is_live form) is ∙ side_live form 1 []) dead

pub empty_payloads : (form : ℕ) (side : Side) (one : List ℕ) (image : Image) → one ≡ side_bytes form 1 [] → is_live form (image_side (other_side side) image) ≡ false → payloads form (with_side side one image) ≡ []
empty_payloads form side one image is dead = made_payloads form 1 side one image [] is (All-nil (λ (p : List ℕ). length p < 2 ^ 32)) (empty_counts form side one image is dead)

-- the journal of it
abbrev pub fresh_journal : (form : ℕ) (broken : Bool) → Side → JournalState
fresh_journal form broken side = record { form = form; live = side; generation = 1; len = 19; broken = broken }

pub fresh_in_step : (form : ℕ) (broken : Bool) (side : Side) (one : List ℕ) (image : Image) → one ≡ side_bytes form 1 [] → is_live form (image_side (other_side side) image) ≡ false → IsInStep (fresh_journal form broken side) (settled_disk (with_side side one image))
fresh_in_step form broken side one image is dead =
    let size : 19 ≡ length one = sym (ap length is ∙ side_length form 1 []) in
    made_in_step (fresh_journal form broken side) one image [] is (All-nil (λ (p : List ℕ). length p < 2 ^ 32)) (omega arith) size (empty_counts form side one image is dead)

-- where no side counts, there are no payloads at any moment of making side A
pub begun_moments : (form : ℕ) (bytes : List ℕ) (old new : Moments) → old.now ≡ settled_disk (reads_of old.now) → counting form (reads_of old.now) ≡ None → 1 ∷ bytes ≡ side_bytes form 1 [] → Went (making A bytes old.now) old new → AtAnyMoment old new (λ image. payloads form image ≡ payloads form (reads_of old.now))
begun_moments form bytes old new is none empty went =
    let image = reads_of old.now in
    let dead = counting_none form A image.a image.b none in
    let nothing : payloads form image ≡ [] = payloads_none form image none in
    let moments = making_moments form A bytes image [] [] old new is (leaves_none form A image.a image.b dead.0 dead.1) (empty_payloads form A (1 ∷ bytes) image empty dead.1) went in
    weaker_moments old new (HasEither form [] []) (λ found. payloads form found ≡ payloads form image) (λ found either. either_same form [] found either ∙ sym nothing) moments

pub begun_in_step : (form : ℕ) (journal : JournalState) (bytes : List ℕ) (old new : DiskState) → journal ≡ fresh_journal form false A → old ≡ settled_disk (reads_of old) → counting form (reads_of old) ≡ None → 1 ∷ bytes ≡ side_bytes form 1 [] → new ≡ on_side A (λ _. settled (1 ∷ bytes)) old → IsInStep journal new
begun_in_step form journal bytes old new fresh is none empty made =
    let image = reads_of old in
    let dead = counting_none form A image.a image.b none in
    let in_step = subst (IsInStep (fresh_journal form false A)) (sym (made_disk A (1 ∷ bytes) image old new is made)) (fresh_in_step form false A (1 ∷ bytes) image empty dead.1) in
    subst (λ (j : JournalState). IsInStep j new) (sym fresh) in_step
