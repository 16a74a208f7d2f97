-- What stays of each form while a disk is opened.
use Rattle.std.proofs.Common.{◌≡◌, ◌≢◌, ℕ, ◌-◌, Bool, true, false, not, ◌&&◌, if◌then◌else◌, List, [], ◌∷◌, get_or, take, inl, inr, refl, sym, ap, subst, ◌∙◌}
use Rattle.std.specs.Prelude.{◌⊎◌}
use Rattle.std.specs.List.{AllByRecursion}
use Rattle.std.proofs.lemmas.Bool.{cases_eq}
use Rattle.outside.specs.declared.disk.Side.{Side}
use Rattle.outside.specs.declared.disk.Side.TheVariants.{A}
use Rattle.outside.specs.Disks.{AtAnyMoment, DiskState, EachImage, Goes, Image, IsImage, Moments, image_side, on_side, reads_of, settled_disk, writing}
use Rattle.outside.proofs.MomentLaws.{at_present, call_moments, joined_moments, started_moments, weaker_moments}
use Rattle.store_journal.specs.Forms.{HoldsFormAs, HoldsForms, HoldsFormsOf, HoldsSame, found_form, has_form, older_counts}
use Rattle.store_journal.specs.Payloads.{is_live, payloads, side_bytes}
use Rattle.store_journal.specs.Steps.{Step, Went, making}
use Rattle.store_journal.proofs.Changing.{making_each}
use Rattle.store_journal.proofs.Counting.{counting_live, counting_none, dead_prefix}
use Rattle.store_journal.proofs.Forms.{both_moments, header_has_form, header_holds, no_form_counts, no_form_paired, no_form_payloads, other_form_dead}
use Rattle.store_journal.proofs.Openings.{Ends, closing_ends, ends_payloads, commit_byte_header}
use Rattle.store_journal.proofs.Settled.{settled_each, settled_image}
use Rattle.store_journal.proofs.SideBytes.{side_live}
use Rattle.store_journal.proofs.Standing.{steps_are}
use Rattle.store_journal.proofs.Torn.{IsTornImage, torn_image}
use Rattle.store_journal.proofs.Went.{went_moments}

-- an image holds what it holds
pub same_image : (image : Image) → HoldsSame image image
same_image image form = record { live = refl; same = refl }

-- so it is before anything is written,
pub at_once_holds : (moments : Moments) → moments.now ≡ settled_disk (reads_of moments.now) → AtAnyMoment moments moments (HoldsSame (reads_of moments.now))
at_once_holds moments settled =
    let P = HoldsSame (reads_of moments.now) in
    started_moments moments P (subst (EachImage P) (sym settled) (settled_each P (reads_of moments.now) (same_image (reads_of moments.now))))

-- while a settled disk is read,
pub read_holds : (old new : Moments) → Goes old.now old new → old.now ≡ settled_disk (reads_of old.now) → AtAnyMoment old new (HoldsSame (reads_of old.now))
read_holds old new goes settled =
    let P = HoldsSame (reads_of old.now) in
    let each : EachImage P old.now = subst (EachImage P) (sym settled) (settled_each P (reads_of old.now) (same_image (reads_of old.now))) in
    call_moments old.now old new P goes each each

-- and in what follows
pub read_holds_then : (old middle new : Moments) → Goes old.now old middle → middle.now ≡ old.now → old.now ≡ settled_disk (reads_of old.now) → AtAnyMoment middle new (HoldsSame (reads_of middle.now)) → AtAnyMoment old new (HoldsSame (reads_of old.now))
read_holds_then old middle new goes same settled moments =
    let later = subst (λ (d : DiskState). AtAnyMoment middle new (HoldsSame (reads_of d))) same moments in
    joined_moments old middle new (HoldsSame (reads_of old.now)) (read_holds old middle goes settled) later

-- while a commit byte is closed after which no payload follows
commit_byte_holds : (form : ℕ) (side : Side) (generation len : ℕ) (list : List (List ℕ)) (old new : Image) (ends : Ends form side generation len list old) → get_or (image_side side old) (len - 1) 0 ≡ 1 → IsTornImage side (len - 1) 1 old new → HoldsSame old new
commit_byte_holds form side generation len list old new ends one torn other =
    let header = commit_byte_header len list (image_side side old) (image_side side new) ends.ends.spelled torn.torn in
    let live = counting_live form old side ends.counts in
    let own : HoldsFormAs form old new = record {
      live = header_has_form form side old new header torn.other;
      same = ends_payloads form side generation len list new (closing_ends form side generation len list old new ends one torn) ∙ sym (ends_payloads form side generation len list old ends);
    } in
    elim (cases_eq other form) [
      | inl is ↦ subst (λ (f : ℕ). HoldsFormAs f old new) (sym is) own
      | inr differs ↦ header_holds other side old new header torn.other (other_form_dead form other (image_side side old) differs live)
    ]

pub closing_holds : (form : ℕ) (side : Side) (generation len : ℕ) (list : List (List ℕ)) (image : Image) (old new : Moments) (ends : Ends form side generation len list image) → get_or (image_side side image) (len - 1) 0 ≡ 1 → old.now ≡ settled_disk image → Goes (on_side side (writing (len - 1) 1) old.now) old new → AtAnyMoment old new (HoldsSame image)
closing_holds form side generation len list image old new ends one is goes =
    let P = HoldsSame image in
    let inside : EachImage P (on_side side (writing (len - 1) 1) (settled_disk image)) = λ now torn.
    commit_byte_holds form side generation len list image now ends one (torn_image side (len - 1) 1 image now torn) in
    call_moments (on_side side (writing (len - 1) 1) old.now) old new P goes
    (subst (EachImage P) (sym is) (settled_each P image (same_image image)))
    (subst (λ (disk : DiskState). EachImage P (on_side side (writing (len - 1) 1) disk)) (sym is) inside)

-- while side A is made for one form no other becomes live
pub begun_apart : (form other : ℕ) (bytes : List ℕ) (old new : Moments) → old.now ≡ settled_disk (reads_of old.now) → other ≢ form → has_form other (reads_of old.now) ≡ false → 1 ∷ bytes ≡ side_bytes form 1 [] → Went (making A bytes old.now) old new → AtAnyMoment old new (λ image. has_form other image ≡ false)
begun_apart form other bytes old new is differs none empty went =
    let P = λ (image : Image). has_form other image ≡ false in
    let image = reads_of old.now in
    let dead = counting_none other A image.a image.b (no_form_counts other image none) in
    let live : is_live form (1 ∷ bytes) ≡ true = ap (is_live form) empty ∙ side_live form 1 [] in
    let before : EachImage P old.now = subst (EachImage P) (sym is) (settled_each P image none) in
    let each = making_each P A bytes image.a image.b
    (λ k. no_form_paired other A (take k image.a) image.b (dead_prefix other k image.a dead.0) dead.1)
    (λ left gone. no_form_paired other A left image.b (gone other) dead.1)
    (no_form_paired other A (1 ∷ bytes) image.b (other_form_dead form other (1 ∷ bytes) differs live) dead.1) in
    went_moments (making A bytes old.now) old new P went before (subst (AllByRecursion (λ (step : Step). EachImage P step.during)) (sym (steps_are A bytes image old.now is)) each)

-- what is the same of each form is so of two
same_forms : (newer older : ℕ) (before image : Image) → HoldsSame before image → HoldsForms newer older before image
same_forms newer older before image same = record {
  newer_same = (same newer).same;
  older_live = (same older).live;
  older_same = (same older).same;
  newer_live = inl (same newer).live;
}

pub forms_if_same : (newer older : ℕ) (old new : Moments) → AtAnyMoment old new (HoldsSame (reads_of old.now)) → AtAnyMoment old new (HoldsForms newer older (reads_of old.now))
forms_if_same newer older old new same = weaker_moments old new (HoldsSame (reads_of old.now)) (HoldsForms newer older (reads_of old.now)) (same_forms newer older (reads_of old.now)) same

-- where neither form was live
begun_forms : (newer older : ℕ) (before image : Image) → has_form newer before ≡ false → has_form older before ≡ false → (payloads newer image ≡ payloads newer before) × (has_form older image ≡ false) → HoldsForms newer older before image
begun_forms newer older before image none gone both = record {
  newer_same = both.0;
  older_live = both.1 ∙ sym gone;
  older_same = no_form_payloads older image both.1 ∙ sym (no_form_payloads older before gone);
  newer_live = inr (none, gone);
}

forms_if_newer : (newer older : ℕ) (old new : Moments) (live : Bool) → has_form newer (reads_of old.now) ≡ live → older_counts newer older (reads_of old.now) ≡ false
    → AtAnyMoment old new (λ image. payloads newer image ≡ payloads newer (reads_of old.now))
    → (has_form newer (reads_of old.now) ≡ true → AtAnyMoment old new (HoldsSame (reads_of old.now)))
    → (has_form newer (reads_of old.now) ≡ false → has_form older (reads_of old.now) ≡ false → AtAnyMoment old new (λ image. has_form older image ≡ false))
    → AtAnyMoment old new (HoldsForms newer older (reads_of old.now))
forms_if_newer newer older old new true is counts payloads_same holds apart = forms_if_same newer older old new (holds is)
forms_if_newer newer older old new false is counts payloads_same holds apart =
    let before = reads_of old.now in
    let P = λ (image : Image). payloads newer image ≡ payloads newer before in
    let Q = λ (image : Image). has_form older image ≡ false in
    let gone : has_form older before ≡ false = ap (λ (b : Bool). not b && has_form older before) (sym is) ∙ counts in
    weaker_moments old new (λ image. P image × Q image) (HoldsForms newer older before) (λ image both. begun_forms newer older before image is gone both)
    (both_moments old new P Q payloads_same (apart is gone))

-- where the older form doesn't count
pub newer_forms : (newer older : ℕ) (old new : Moments) → older_counts newer older (reads_of old.now) ≡ false
    → AtAnyMoment old new (λ image. payloads newer image ≡ payloads newer (reads_of old.now))
    → (has_form newer (reads_of old.now) ≡ true → AtAnyMoment old new (HoldsSame (reads_of old.now)))
    → (has_form newer (reads_of old.now) ≡ false → has_form older (reads_of old.now) ≡ false → AtAnyMoment old new (λ image. has_form older image ≡ false))
    → AtAnyMoment old new (HoldsForms newer older (reads_of old.now))
newer_forms newer older old new counts = forms_if_newer newer older old new (has_form newer (reads_of old.now)) refl counts

-- where it counts it is live
second_of : (one two : Bool) → (not one && two) ≡ true → two ≡ true
second_of true two e = absurd cc
second_of false two e = e

pub older_live : (newer older : ℕ) (image : Image) → older_counts newer older image ≡ true → has_form older image ≡ true
older_live newer older image counts = second_of (has_form newer image) (has_form older image) counts

-- an image of a disk holds its own
own_forms : (newer older : ℕ) (disk : DiskState) → EachImage (HoldsFormsOf newer older disk) disk
own_forms newer older disk image is = record { before = image; was = is; same = same_forms newer older image image (same_image image) }

-- while a disk is read, an image holds what one at entry held
pub read_forms : (newer older : ℕ) (old new : Moments) → Goes old.now old new → AtAnyMoment old new (HoldsFormsOf newer older old.now)
read_forms newer older old new goes = call_moments old.now old new (HoldsFormsOf newer older old.now) goes (own_forms newer older old.now) (own_forms newer older old.now)

-- and so it is in what follows
pub then_forms : (newer older : ℕ) (old middle new : Moments) → Goes old.now old middle → middle.now ≡ settled_disk (reads_of old.now) → AtAnyMoment middle new (HoldsForms newer older (reads_of middle.now)) → AtAnyMoment old new (HoldsFormsOf newer older old.now)
then_forms newer older old middle new goes is moments =
    let entry : IsImage old.now (reads_of old.now) = goes.within (reads_of old.now) (subst (λ (disk : DiskState). IsImage disk (reads_of old.now)) (sym is) (settled_image (reads_of old.now))) in
    let later = subst (λ (image : Image). AtAnyMoment middle new (HoldsForms newer older image)) (ap reads_of is) moments in
    joined_moments old middle new (HoldsFormsOf newer older old.now) (read_forms newer older old middle goes)
    (weaker_moments middle new (HoldsForms newer older (reads_of old.now)) (HoldsFormsOf newer older old.now) (λ image same. record { before = reads_of old.now; was = entry; same = same }) later)

pub then_all_forms : (newer older : ℕ) (old middle new : Moments) → middle.now ≡ settled_disk (reads_of old.now) → AtAnyMoment middle new (HoldsForms newer older (reads_of middle.now)) → AtAnyMoment middle new (HoldsForms newer older (reads_of old.now))
then_all_forms newer older old middle new is moments = subst (λ (image : Image). AtAnyMoment middle new (HoldsForms newer older image)) (ap reads_of is) moments

form_same : (is_older : Bool) (newer older : ℕ) (before image : Image) → HoldsForms newer older before image → payloads (if is_older then older else newer) image ≡ payloads (if is_older then older else newer) before
form_same true newer older before image holds = holds.older_same
form_same false newer older before image holds = holds.newer_same

-- what reads of a settled disk give holds what reads gave at entry,
pub present_forms : (newer older : ℕ) (old new : Moments) → AtAnyMoment old new (HoldsForms newer older (reads_of old.now)) → new.now ≡ settled_disk (reads_of new.now) → HoldsForms newer older (reads_of old.now) (reads_of new.now)
present_forms newer older old new moments settled =
    at_present old new (HoldsForms newer older (reads_of old.now)) moments (reads_of new.now) (subst (λ (disk : DiskState). IsImage disk (reads_of new.now)) (sym settled) (settled_image (reads_of new.now)))

-- with the payloads of the form that counts,
pub present_found : (newer older : ℕ) (old new : Moments) → AtAnyMoment old new (HoldsForms newer older (reads_of old.now)) → new.now ≡ settled_disk (reads_of new.now) → payloads (found_form newer older (reads_of old.now)) (reads_of new.now) ≡ payloads (found_form newer older (reads_of old.now)) (reads_of old.now)
present_found newer older old new moments settled =
    form_same (older_counts newer older (reads_of old.now)) newer older (reads_of old.now) (reads_of new.now) (present_forms newer older old new moments settled)

none_still : (live was other : Bool) → was ≡ false → other ≡ false → (not live && other) ≡ (not was && other)
none_still true was other none gone = sym (ap (λ (b : Bool). not b && other) none ∙ gone)
none_still false was other none gone = sym (ap (λ (b : Bool). not b && other) none)

newer_still : (newer older : ℕ) (before image : Image) → ((has_form newer image ≡ has_form newer before) ⊎ ((has_form newer before ≡ false) × (has_form older before ≡ false))) → (not (has_form newer image) && has_form older before) ≡ (not (has_form newer before) && has_form older before)
newer_still newer older before image (inl same) = ap (λ (b : Bool). not b && has_form older before) same
newer_still newer older before image (inr none) = none_still (has_form newer image) (has_form newer before) (has_form older before) none.0 none.1

-- and the same form counts
counts_still : (newer older : ℕ) (before image : Image) → HoldsForms newer older before image → older_counts newer older image ≡ older_counts newer older before
counts_still newer older before image holds =
    ap (λ (b : Bool). not (has_form newer image) && b) holds.older_live ∙ newer_still newer older before image holds.newer_live

pub present_counts : (newer older : ℕ) (old new : Moments) → AtAnyMoment old new (HoldsForms newer older (reads_of old.now)) → new.now ≡ settled_disk (reads_of new.now) → older_counts newer older (reads_of new.now) ≡ older_counts newer older (reads_of old.now)
present_counts newer older old new moments settled = counts_still newer older (reads_of old.now) (reads_of new.now) (present_forms newer older old new moments settled)

-- where the older form counts it is the one that is found, and the newer one isn't live
pub found_older : (newer older : ℕ) (image : Image) → older_counts newer older image ≡ true → found_form newer older image ≡ older
found_older newer older image counts = ap (λ (b : Bool). if b then older else newer) counts

first_of : (one two : Bool) → (not one && two) ≡ true → one ≡ false
first_of true two e = absurd cc
first_of false two e = refl

pub newer_gone : (newer older : ℕ) (image : Image) → older_counts newer older image ≡ true → has_form newer image ≡ false
newer_gone newer older image counts = first_of (has_form newer image) (has_form older image) counts

-- and else it is the newer one
pub found_newer : (newer older : ℕ) (image : Image) → older_counts newer older image ≡ false → found_form newer older image ≡ newer
found_newer newer older image counts = ap (λ (b : Bool). if b then older else newer) counts

is_picked : (test : Bool) (newer older : ℕ) → older ≢ newer → (if test then older else newer) ≡ older → test ≡ true
is_picked true newer older differs e = refl
is_picked false newer older differs e = absurd (differs (sym e))

-- so where the older one is found the newer one isn't live
pub found_alone : (newer older : ℕ) (image : Image) → older ≢ newer → found_form newer older image ≡ older → has_form newer image ≡ false
found_alone newer older image differs is = newer_gone newer older image (is_picked (older_counts newer older image) newer older differs is)

-- nor is it in what reads give then
pub present_alone : (newer older : ℕ) (old new : Moments) → older ≢ newer → found_form newer older (reads_of old.now) ≡ older → AtAnyMoment old new (HoldsForms newer older (reads_of old.now)) → new.now ≡ settled_disk (reads_of new.now) → has_form newer (reads_of new.now) ≡ false
present_alone newer older old new differs is moments settled =
    found_alone newer older (reads_of new.now) differs
    (ap (λ (b : Bool). if b then older else newer) (present_counts newer older old new moments settled) ∙ is)
