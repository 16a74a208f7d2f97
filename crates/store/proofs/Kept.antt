-- What an image holds, whichever form counts.
use Rattle.std.proofs.Common.{◌≡◌, ℕ, Bool, true, false, not, ◌&&◌, List, [], refl, sym, ap, subst, ◌∙◌, inl, inr, ◌⊎◌}
use Rattle.std.specs.Prelude.{if◌then◌else◌}
use Rattle.outside.specs.Disks.{AtAnyMoment, Image, Moments, NeverLoses}
use Rattle.outside.specs.Records.{Record as RequestRecord, latest_alone as latest_requests}
use Rattle.outside.proofs.MomentLaws.{weaker_moments}
use Rattle.store_journal.specs.Forms.{ChangesForm, CountsNone, CountsSame, HoldsForms, has_form, older_counts}
use Rattle.store_journal.specs.Payloads.{payloads}
use Rattle.store_journal.proofs.Forms.{both_moments, no_form_payloads}
use Rattle.store_form_2.specs.NodeContents.{contents_of as node_contents_of}
use Rattle.store_codec.specs.Compaction.{compacted_from, compacted_requests}
use Rattle.store_codec.specs.RecordTables.{record_table_of, requests_among}
use Rattle.store_form_2.specs.Migrating.{migrated_requests, ranked}
use Rattle.store_form_2.specs.ViewRecords.{latest_views}
use Rattle.store.specs.Taking.{taken_payloads}
use Rattle.store.specs.StoreLaws.{live_requests}
use Rattle.store.specs.Stored.{kept_payloads, own_requests, requests_in}
use Rattle.store_journal.proofs.Losing.{losses_as}

both_and : (b : Bool) → (b && false) ≡ false
both_and true = refl
both_and false = refl

-- what is read of the payloads of form 2 where that alone is live, and of those of form 3 else
module _ {Y : Type 0} (earlier later : List (List ℕ) → Y) where
  abbrev by_form : Bool → Image → Y
  by_form older image = if older then earlier (payloads 2 image) else later (payloads 3 image)

  abbrev read_of : Image → Y
  read_of image = by_form (older_counts 3 2 image) image

  read_live : (image : Image) → has_form 3 image ≡ true → read_of image ≡ later (payloads 3 image)
  read_live image live = ap (λ (b : Bool). by_form (not b && has_form 2 image) image) live

  read_older : (image : Image) → has_form 3 image ≡ false → has_form 2 image ≡ true → read_of image ≡ earlier (payloads 2 image)
  read_older image none live = ap (λ (b : Bool). by_form (not b && has_form 2 image) image) none ∙ ap (λ (b : Bool). by_form b image) live

  read_neither : (image : Image) → has_form 2 image ≡ false → read_of image ≡ later (payloads 3 image)
  read_neither image none = ap (λ (b : Bool). by_form (not (has_form 3 image) && b) image) none ∙ ap (λ (b : Bool). by_form b image) (both_and (not (has_form 3 image)))

  read_held : (before image : Image) → HoldsForms 3 2 before image → read_of image ≡ read_of before
  read_held before image holds = by holds.newer_live
    where
      same_by : (older : Bool) → by_form older image ≡ by_form older before
      same_by true = ap earlier holds.older_same
      same_by false = ap later holds.newer_same

      by : (has_form 3 image ≡ has_form 3 before) ⊎ ((has_form 3 before ≡ false) × (has_form 2 before ≡ false)) → read_of image ≡ read_of before
      by (inl same) =
          ap (λ (b : Bool). by_form (not b && has_form 2 image) image) same
          ∙ ap (λ (b : Bool). by_form (not (has_form 3 before) && b) image) holds.older_live
          ∙ same_by (older_counts 3 2 before)
      by (inr none) = read_neither image (holds.older_live ∙ none.1) ∙ ap later holds.newer_same ∙ sym (read_neither before none.1)

  read_same : (before image : Image) → CountsSame 3 2 before image → read_of image ≡ read_of before
  read_same before image same = ap (λ (b : Bool). by_form b image) same.counts ∙ by (older_counts 3 2 before) refl
    where
      by : (older : Bool) → older_counts 3 2 before ≡ older → by_form older image ≡ by_form older before
      by true found = ap earlier (subst (λ (b : Bool). payloads (if b then 2 else 3) image ≡ payloads (if b then 2 else 3) before) found same.same)
      by false found = ap later (subst (λ (b : Bool). payloads (if b then 2 else 3) image ≡ payloads (if b then 2 else 3) before) found same.same)

  read_none : earlier [] ≡ later [] → (image : Image) → CountsNone 3 2 image → read_of image ≡ later []
  read_none empty image none = by (older_counts 3 2 image) refl
    where
      by : (older : Bool) → older_counts 3 2 image ≡ older → by_form older image ≡ later []
      by true found = ap earlier (subst (λ (b : Bool). payloads (if b then 2 else 3) image ≡ []) found none) ∙ empty
      by false found = ap later (subst (λ (b : Bool). payloads (if b then 2 else 3) image ≡ []) found none)

  -- inside the change of a form, to payloads of which is read what was read before
  read_changed : earlier [] ≡ later [] → (before after : List (List ℕ)) → later after ≡ earlier before → (image : Image) → ChangesForm 2 3 before after image → read_of image ≡ later after
  read_changed empty before after is image changes = by changes.made (has_form 2 image) refl
    where
      by : (has_form 3 image ≡ false) ⊎ ((has_form 3 image ≡ true) × (payloads 3 image ≡ after)) → (older : Bool) → has_form 2 image ≡ older → read_of image ≡ later after
      by (inr made) older found = read_live image made.0 ∙ ap later made.1
      by (inl none) true found = read_older image none found ∙ ap earlier changes.kept ∙ sym is
      by (inl none) false found =
          read_neither image found ∙ ap later (no_form_payloads 3 image none)
          ∙ sym empty ∙ ap earlier (sym (no_form_payloads 2 image found) ∙ changes.kept) ∙ sym is

abbrev pub migrated_among : List (List ℕ) → List RequestRecord
migrated_among ps = migrated_requests (node_contents_of ps).records

abbrev pub as_they_are : List (List ℕ) → List (List ℕ)
as_they_are ps = ps

-- nothing takes the index of nothing
pub taken_none : taken_payloads [] ≡ []
unfolding node_contents_of latest_views migrated_requests ranked latest_requests compacted_from compacted_requests
taken_none = refl

pub migrated_none : migrated_requests (node_contents_of []).records ≡ requests_among []
unfolding node_contents_of latest_views migrated_requests ranked record_table_of
migrated_none = refl

pub kept_live : (image : Image) → has_form 3 image ≡ true → kept_payloads image ≡ payloads 3 image
kept_live = read_live taken_payloads as_they_are

pub kept_held : (before image : Image) → HoldsForms 3 2 before image → kept_payloads image ≡ kept_payloads before
kept_held = read_held taken_payloads as_they_are

pub kept_changed : (before after : List (List ℕ)) → after ≡ taken_payloads before → (image : Image) → ChangesForm 2 3 before after image → kept_payloads image ≡ after
kept_changed = read_changed taken_payloads as_they_are taken_none

pub kept_older : (image : Image) → has_form 3 image ≡ false → has_form 2 image ≡ true → kept_payloads image ≡ taken_payloads (payloads 2 image)
kept_older = read_older taken_payloads as_they_are

pub requests_held : (before image : Image) → HoldsForms 3 2 before image → requests_in image ≡ requests_in before
requests_held = read_held migrated_among requests_among

pub requests_same : (before image : Image) → CountsSame 3 2 before image → requests_in image ≡ requests_in before
requests_same = read_same migrated_among requests_among

pub requests_none : (image : Image) → CountsNone 3 2 image → requests_in image ≡ requests_among []
requests_none = read_none migrated_among requests_among migrated_none

pub requests_changed : (before after : List (List ℕ)) → requests_among after ≡ migrated_requests (node_contents_of before).records → (image : Image) → ChangesForm 2 3 before after image → requests_in image ≡ requests_among after
requests_changed = read_changed migrated_among requests_among migrated_none

pub requests_older : (image : Image) → has_form 3 image ≡ false → has_form 2 image ≡ true → requests_in image ≡ migrated_requests (node_contents_of (payloads 2 image)).records
requests_older = read_older migrated_among requests_among

-- if form 3 is live at each moment, a property of the records of form 3 is one of all records
module _ (old new : Moments) (live : AtAnyMoment old new (λ image. has_form 3 image ≡ true)) (P : List RequestRecord → Type 0) where
  pub moments_of : AtAnyMoment old new (λ image. P (own_requests image)) → AtAnyMoment old new (λ image. P (requests_in image))
  moments_of moments =
      weaker_moments old new (λ image. (has_form 3 image ≡ true) × P (own_requests image)) (λ image. P (requests_in image))
      (λ image both. subst P (sym (live_requests image both.0)) both.1)
      (both_moments old new (λ image. has_form 3 image ≡ true) (λ image. P (own_requests image)) live moments)

  pub losing_of : NeverLoses old new (λ image. P (own_requests image)) → NeverLoses old new (λ image. P (requests_in image))
  losing_of never =
      losses_as old new (λ image. has_form 3 image ≡ true) (λ image. P (own_requests image)) (λ image. P (requests_in image))
      (λ image is has. subst P (live_requests image is) has) (λ image is has. subst P (sym (live_requests image is)) has) live never
