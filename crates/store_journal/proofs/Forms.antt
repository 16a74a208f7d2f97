-- Which forms are live in an image, and what stays of them.
use Rattle.std.proofs.Common.{◌≡◌, ◌≢◌, ℕ, Bool, true, false, nat_le, ◌||◌, List, [], ◌∷◌, length, get_or, take, Option, Some, None, bytes_eq, refl, sym, ap, ◌∙◌}
use Rattle.std.specs.List.{AllByRecursion}
use Rattle.std.proofs.lemmas.Bool.{and_parts}
use Rattle.std.proofs.lemmas.Slice.Eq.{bytes_eq-Decides}
use Rattle.outside.specs.declared.disk.Side.{Side}
use Rattle.outside.specs.declared.disk.Side.TheVariants.{A, B}
use Rattle.outside.specs.Disks.{AtAnyMoment, DiskState, EachImage, Image, Moments, image_side, moments_since}
use Rattle.store_journal.specs.Forms.{HoldsFormAs, has_form}
use Rattle.store_journal.specs.Journals.{other_side}
use Rattle.store_journal.specs.Payloads.{counting, is_live, magic, payloads, payloads_in}
use Rattle.store_journal.proofs.Counting.{counting_live, counting_none, none_counts, only_counts, paired, payloads_none}
use Rattle.store_journal.proofs.Kept.{SameHeader, counting_still, live_still, payloads_of_side}

neither : (one two : Bool) → (one || two) ≡ false → (one ≡ false) × (two ≡ false)
neither true two e = absurd cc
neither false true e = absurd cc
neither false false e = (refl, refl)

or_second : (one : Bool) → (one || true) ≡ true
or_second true = refl
or_second false = refl

-- where a form isn't live no side counts for it,
pub no_form_counts : (form : ℕ) (image : Image) → has_form form image ≡ false → counting form image ≡ None
unfolding has_form counting
no_form_counts form image none =
    let both = neither (is_live form image.a) (is_live form image.b) none in
    rw (both.0, both.1) refl

-- and there are no payloads of it
pub no_form_payloads : (form : ℕ) (image : Image) → has_form form image ≡ false → payloads form image ≡ []
no_form_payloads form image none = payloads_none form image (no_form_counts form image none)

-- where no side counts the form isn't live
pub counts_no_form : (form : ℕ) (image : Image) → counting form image ≡ None → has_form form image ≡ false
unfolding has_form
counts_no_form form image none =
    let dead = counting_none form A image.a image.b none in
    rw (dead.0, dead.1) refl

-- and where one counts it is
pub counts_has_form : (form : ℕ) (image : Image) (side : Side) → counting form image ≡ Some side → has_form form image ≡ true
unfolding has_form
counts_has_form form image A counts = rw (counting_live form image A counts) refl
counts_has_form form image B counts = ap (λ (b : Bool). is_live form image.a || b) (counting_live form image B counts) ∙ or_second (is_live form image.a)

-- by one side and the other
pub no_form_paired : (form : ℕ) (side : Side) (one other : List ℕ) → is_live form one ≡ false → is_live form other ≡ false → has_form form (paired side one other) ≡ false
no_form_paired form side one other dead gone = counts_no_form form (paired side one other) (none_counts form side one other dead gone)

pub has_form_paired : (form : ℕ) (side : Side) (one other : List ℕ) → is_live form one ≡ true → is_live form other ≡ false → has_form form (paired side one other) ≡ true
has_form_paired form side one other live gone = counts_has_form form (paired side one other) side (only_counts form side one other live gone)

-- and it is where the other side is
pub other_has_form : (form : ℕ) (side : Side) (one other : List ℕ) → is_live form other ≡ true → has_form form (paired side one other) ≡ true
unfolding has_form
other_has_form form A one other live = ap (λ (b : Bool). is_live form one || b) live ∙ or_second (is_live form one)
other_has_form form B one other live = rw live refl

not_both : (b : Bool) → (b ≡ true → ⊥) → b ≡ false
not_both true never = absurd (never refl)
not_both false never = refl

-- what live bytes begin with
live_magic : (form : ℕ) (bytes : List ℕ) → is_live form bytes ≡ true → take 10 bytes ≡ magic form
unfolding is_live
live_magic form bytes live = (bytes_eq-Decides (take 10 bytes) (magic form)).0 (and_parts (nat_le 19 (length bytes)) (bytes_eq (take 10 bytes) (magic form)) live).1

-- a side is live for one form at most
pub other_form_dead : (form other : ℕ) (bytes : List ℕ) → other ≢ form → is_live form bytes ≡ true → is_live other bytes ≡ false
other_form_dead form other bytes differs live = not_both (is_live other bytes) (λ too.
    let magics : magic other ≡ magic form = sym (live_magic other bytes too) ∙ live_magic form bytes live in
    let same : other ≡ form = ap (λ (l : List ℕ). get_or l 9 0) magics in
    differs same)

-- a side whose header stays is live for the same forms
pub header_has_form : (form : ℕ) (side : Side) (old new : Image) → SameHeader (image_side side old) (image_side side new) → image_side (other_side side) new ≡ image_side (other_side side) old → has_form form new ≡ has_form form old
unfolding has_form
header_has_form form A old new header other = rw (live_still form old.a new.a header, other) refl
header_has_form form B old new header other = rw (live_still form old.b new.b header, other) refl

-- a side that counts for a form stays, where the other one isn't live for it
side_stays : (form : ℕ) (side counts : Side) (old new : Image) → is_live form (image_side side old) ≡ false → is_live form (image_side counts old) ≡ true → image_side (other_side side) new ≡ image_side (other_side side) old → image_side counts new ≡ image_side counts old
side_stays form A A old new dead live other =
    let nothing : ⊥ = cc (dead, live) in
    absurd nothing
side_stays form A B old new dead live other = other
side_stays form B A old new dead live other = other
side_stays form B B old new dead live other =
    let nothing : ⊥ = cc (dead, live) in
    absurd nothing

payloads_by : (form : ℕ) (found : Option Side) (old new : Image) → counting form old ≡ found → counting form new ≡ found → ((side : Side) → found ≡ Some side → image_side side new ≡ image_side side old) → payloads form new ≡ payloads form old
payloads_by form None old new before after stays = payloads_none form new after ∙ sym (payloads_none form old before)
payloads_by form (Some side) old new before after stays = payloads_of_side form side new after ∙ ap payloads_in (stays side refl) ∙ sym (payloads_of_side form side old before)

-- so is each form for which the side isn't live
pub header_holds : (form : ℕ) (side : Side) (old new : Image) → SameHeader (image_side side old) (image_side side new) → image_side (other_side side) new ≡ image_side (other_side side) old → is_live form (image_side side old) ≡ false → HoldsFormAs form old new
header_holds form side old new header other dead = record {
  live = header_has_form form side old new header other;
  same = payloads_by form (counting form old) old new refl (counting_still form side old new header other) (λ counts is. side_stays form side counts old new dead (counting_live form old counts is) other);
}

both_each : (P Q : Image → Type 0) (states : List DiskState) → AllByRecursion (EachImage P) states → AllByRecursion (EachImage Q) states → AllByRecursion (EachImage (λ image. P image × Q image)) states
both_each P Q [] one two = tt
both_each P Q (state ∷ states) one two = (λ image is. (one.0 image is, two.0 image is), both_each P Q states one.1 two.1)

-- what two facts say of each moment, both say
pub both_moments : (old new : Moments) (P Q : Image → Type 0) → AtAnyMoment old new P → AtAnyMoment old new Q → AtAnyMoment old new (λ image. P image × Q image)
both_moments old new P Q one two = record { follows = one.follows; each = both_each P Q (moments_since old new) one.each two.each }
