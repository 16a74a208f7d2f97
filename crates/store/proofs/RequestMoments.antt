-- What stops can leave of a store, from what they leave of its journal.
use Rattle.std.proofs.Common.{◌≡◌, ℕ, true, List, [], ◌∷◌, ◌++◌, refl, sym, ap, subst, ◌∙◌, inl, inr}
use Rattle.std.specs.Prelude.{Result}
use Rattle.outside.specs.Disks.{DiskState, Image, IsEither, Moments, AtAnyMoment, NeverLoses, OpensWith, reads_of, IsImage, IsDurable}
use Rattle.outside.proofs.MomentLaws.{call_loses_nothing, joined_losses, joined_moments, started_moments, weaker_moments}
use Rattle.store_journal.specs.Payloads.{payloads}
use Rattle.store_journal.specs.Forms.{CountsNone, CountsSameOrNone, HoldsForms, HoldsFormsOf, OpensEmpty, has_form}
use Rattle.store_journal.specs.Journals.{JournalState}
use Rattle.outside.specs.Records.{Record as RequestRecord, latest_alone as latest_requests}
use Rattle.store_codec.specs.RecordTables.{requests_among}
use Rattle.store.specs.StoreLaws.{in_step_live, live_requests, request_store_durable}
use Rattle.store.specs.Stored.{AreAllOrLatest, HasRequestsOf, IsRequestStoreInStep, RequestStoreState, own_requests, requests_in}
use Rattle.store.proofs.Kept.{moments_of, requests_held, requests_none, requests_same}
use Rattle.store_journal.proofs.Losing.{always_had, losses_as}
use Rattle.store.proofs.RequestsAdded.{no_longer, none_among}

module _ (old new : Moments) (reads : Image) where
  -- what a stop can leave of the journal, from these payloads to those
  abbrev pub Left : List (List ℕ) → Image → Type 0
  Left after image = IsEither (payloads 3 image) (payloads 3 reads) after

  -- the records from before, with the new one or without
  pub commit_leaves : (payload : List ℕ) (kept : RequestRecord) → requests_among (payloads 3 reads ++ payload ∷ []) ≡ own_requests reads ++ kept ∷ [] → AtAnyMoment old new (Left (payloads 3 reads ++ payload ∷ []))
      → AtAnyMoment old new (λ image. IsEither (own_requests image) (own_requests reads) (own_requests reads ++ kept ∷ []))
  commit_leaves payload kept is moments = weaker_moments old new (Left (payloads 3 reads ++ payload ∷ [])) (λ image. IsEither (own_requests image) (own_requests reads) (own_requests reads ++ kept ∷ [])) to moments where
    to : (image : Image) → Left (payloads 3 reads ++ payload ∷ []) image → IsEither (own_requests image) (own_requests reads) (own_requests reads ++ kept ∷ [])
    to image (inl same) = inl (ap requests_among same)
    to image (inr more) = inr (ap requests_among more ∙ is)

  -- once each image has the new one, each has it
  pub commit_keeps : (payload : List ℕ) (kept : RequestRecord) → requests_among (payloads 3 reads ++ payload ∷ []) ≡ own_requests reads ++ kept ∷ [] → AtAnyMoment old new (Left (payloads 3 reads ++ payload ∷ []))
      → NeverLoses old new (λ image. payloads 3 image ≡ payloads 3 reads ++ payload ∷ []) → NeverLoses old new (λ image. own_requests image ≡ own_requests reads ++ kept ∷ [])
  commit_keeps payload kept is moments never = losses_as old new (Left (payloads 3 reads ++ payload ∷ [])) (λ image. payloads 3 image ≡ payloads 3 reads ++ payload ∷ []) (λ image. own_requests image ≡ own_requests reads ++ kept ∷ []) to from moments never where
    to : (image : Image) → Left (payloads 3 reads ++ payload ∷ []) image → own_requests image ≡ own_requests reads ++ kept ∷ [] → payloads 3 image ≡ payloads 3 reads ++ payload ∷ []
    to image (inl same) has = absurd (no_longer (own_requests reads) kept (sym (ap requests_among same) ∙ has))
    to image (inr more) has = more

    from : (image : Image) → Left (payloads 3 reads ++ payload ∷ []) image → payloads 3 image ≡ payloads 3 reads ++ payload ∷ [] → own_requests image ≡ own_requests reads ++ kept ∷ []
    from image left more = ap requests_among more ∙ is

  -- the records from before, or the latest of these
  pub compact_leaves : (after : List (List ℕ)) → requests_among after ≡ latest_requests (own_requests reads) → AtAnyMoment old new (Left after) → AtAnyMoment old new (λ image. AreAllOrLatest (own_requests reads) (own_requests image))
  compact_leaves after is moments = weaker_moments old new (Left after) (λ image. AreAllOrLatest (own_requests reads) (own_requests image)) to moments where
    to : (image : Image) → Left after image → AreAllOrLatest (own_requests reads) (own_requests image)
    to image (inl same) = inl (ap requests_among same)
    to image (inr kept) = inr (ap requests_among kept ∙ is)

  -- while a disk is emptied, what the form that counts had before, or none
  abbrev pub Emptied : Image → Type 0
  Emptied image = CountsSameOrNone 3 2 reads image

  -- the records from before, or none
  pub reset_leaves : AtAnyMoment old new Emptied → AtAnyMoment old new (λ image. IsEither (requests_in image) (requests_in reads) [])
  reset_leaves moments = weaker_moments old new Emptied (λ image. IsEither (requests_in image) (requests_in reads) []) to moments where
    to : (image : Image) → Emptied image → IsEither (requests_in image) (requests_in reads) []
    to image (inl same) = inl (requests_same reads image same)
    to image (inr none) = inr (requests_none image none ∙ none_among)

  -- once no image has a record, none has one
  pub reset_keeps : (before : List RequestRecord) → requests_in reads ≡ before → AtAnyMoment old new Emptied → NeverLoses old new (CountsNone 3 2) → NeverLoses old new (λ image. requests_in image ≡ [])
  reset_keeps [] is moments never = always_had old new (λ image. requests_in image ≡ []) (weaker_moments old new Emptied (λ image. requests_in image ≡ []) to moments) where
    to : (image : Image) → Emptied image → requests_in image ≡ []
    to image (inl same) = requests_same reads image same ∙ is
    to image (inr none) = requests_none image none ∙ none_among
  reset_keeps (first ∷ rest) is moments never = losses_as old new Emptied (CountsNone 3 2) (λ image. requests_in image ≡ []) to from moments never where
    some : (records : List RequestRecord) → records ≡ first ∷ rest → records ≡ [] → ⊥
    some records one none = let nothing : ◌≡◌ {A = List RequestRecord} (first ∷ rest) [] = sym one ∙ none in absurd cc

    to : (image : Image) → Emptied image → requests_in image ≡ [] → CountsNone 3 2 image
    to image (inl same) has = absurd (some (requests_in reads) is (sym (requests_same reads image same) ∙ has))
    to image (inr none) has = none

    from : (image : Image) → Emptied image → CountsNone 3 2 image → requests_in image ≡ []
    from image left none = requests_none image none ∙ none_among

-- a disk that a store is in step with, where nothing happens
pub still_leaves : (moments : Moments) (store : RequestStoreState) → IsRequestStoreInStep store moments.now → AtAnyMoment moments moments (λ image. AreAllOrLatest (own_requests (reads_of moments.now)) (own_requests image))
still_leaves moments store in_step = started_moments moments (λ image. AreAllOrLatest (own_requests (reads_of moments.now)) (own_requests image)) (λ image is. inl (ap own_requests (request_store_durable store moments.now in_step image is)))

-- and form 3 stays live
pub still_live : (moments : Moments) (store : RequestStoreState) → IsRequestStoreInStep store moments.now → AtAnyMoment moments moments (λ image. has_form 3 image ≡ true)
still_live moments store in_step =
    let live : has_form 3 (reads_of moments.now) ≡ true = in_step_live store.journal moments.now in_step.journal_in_step in_step.form in
    started_moments moments (λ image. has_form 3 image ≡ true) (λ image is. subst (λ (i : Image). has_form 3 i ≡ true) (sym (request_store_durable store moments.now in_step image is)) live)

-- the records of a disk that a store is in step with
pub own_all : (store : RequestStoreState) (disk : DiskState) → IsRequestStoreInStep store disk → requests_in (reads_of disk) ≡ own_requests (reads_of disk)
own_all store disk in_step = live_requests (reads_of disk) (in_step_live store.journal disk in_step.journal_in_step in_step.form)

-- if form 3 is live at each moment, and its records stay all or the latest of those before, the same holds for all records
pub all_moments : (old new : Moments) (store : RequestStoreState) → IsRequestStoreInStep store old.now → AtAnyMoment old new (λ image. has_form 3 image ≡ true) → AtAnyMoment old new (λ image. AreAllOrLatest (own_requests (reads_of old.now)) (own_requests image)) → AtAnyMoment old new (λ image. AreAllOrLatest (requests_in (reads_of old.now)) (requests_in image))
all_moments old new store in_step live moments =
    subst (λ (rs : List RequestRecord). AtAnyMoment old new (λ image. AreAllOrLatest rs (requests_in image))) (sym (own_all store old.now in_step))
    (moments_of old new live (λ rs. AreAllOrLatest (own_requests (reads_of old.now)) rs) moments)

-- the same of any disk that is durable
pub still_at : (moments : Moments) → IsDurable moments.now → AtAnyMoment moments moments (λ image. AreAllOrLatest (requests_in (reads_of moments.now)) (requests_in image))
still_at moments durable = started_moments moments (λ image. AreAllOrLatest (requests_in (reads_of moments.now)) (requests_in image)) (λ image is. inl (ap requests_in (durable image is)))

-- the records of an image at entry
pub open_leaves : (old new : Moments) → AtAnyMoment old new (HoldsFormsOf 3 2 old.now) → AtAnyMoment old new (HasRequestsOf old.now)
open_leaves old new moments = weaker_moments old new (HoldsFormsOf 3 2 old.now) (HasRequestsOf old.now) (λ image has. record { before = has.before; was = has.was; kept = inl (requests_held has.before image has.same) }) moments

-- and once both sides are synced those of what reads gave
pub open_opens : (old new : Moments) (reads : Image) → OpensWith old new (HoldsForms 3 2 reads) → OpensWith old new (λ image. AreAllOrLatest (requests_in reads) (requests_in image))
open_opens old new reads (inl goes) = inl goes
open_opens old new reads (inr later) =
    inr (later.0, later.1, weaker_moments later.0 new (HoldsForms 3 2 reads) (λ image. AreAllOrLatest (requests_in reads) (requests_in image)) (λ image same. inl (requests_held reads image same)) later.2)

-- an opening in two parts: reads after the first give the same records as before it
module _ (old middle new : Moments) (same : requests_in (reads_of middle.now) ≡ requests_in (reads_of old.now)) (goes_on : AtAnyMoment middle new (λ image. AreAllOrLatest (requests_in (reads_of middle.now)) (requests_in image))) where
  second : AtAnyMoment middle new (λ image. AreAllOrLatest (requests_in (reads_of old.now)) (requests_in image))
  second = subst (λ (rs : List RequestRecord). AtAnyMoment middle new (λ image. AreAllOrLatest rs (requests_in image))) same goes_on

  pub then_leaves : IsImage old.now (reads_of old.now) → AtAnyMoment old middle (HasRequestsOf old.now) → AtAnyMoment old new (HasRequestsOf old.now)
  then_leaves sound first = joined_moments old middle new (HasRequestsOf old.now) first
      (weaker_moments middle new (λ image. AreAllOrLatest (requests_in (reads_of old.now)) (requests_in image)) (HasRequestsOf old.now) (λ image kept. record { before = reads_of old.now; was = sound; kept = kept }) second)

  pub then_opens : OpensWith old middle (λ image. AreAllOrLatest (requests_in (reads_of old.now)) (requests_in image)) → OpensWith old new (λ image. AreAllOrLatest (requests_in (reads_of old.now)) (requests_in image))
  then_opens (inl goes) = inr (middle, goes, second)
  then_opens (inr later) = inr (later.0, later.1, joined_moments later.0 middle new (λ image. AreAllOrLatest (requests_in (reads_of old.now)) (requests_in image)) later.2 second)

-- a disk that is emptied: the records of what reads gave, or none,
pub empty_opens : {E : Type 0} (result : Result JournalState E) (old new : Moments) → OpensEmpty 3 2 result old new → OpensWith old new (λ image. IsEither (requests_in image) (requests_in (reads_of old.now)) [])
empty_opens result old new (inl goes) = inl goes
empty_opens result old new (inr later) =
    let middle = later.0 in
    let same : reads_of middle.now ≡ reads_of old.now = ap reads_of later.2 in
    inr (middle, later.1, subst (λ (reads : Image). AtAnyMoment middle new (λ image. IsEither (requests_in image) (requests_in reads) [])) same (reset_leaves middle new (reads_of middle.now) later.3.any_moment))

-- and once no image has a record, none has one
pub empty_loses : {E : Type 0} (result : Result JournalState E) (old new : Moments) → OpensEmpty 3 2 result old new → NeverLoses old new (λ image. requests_in image ≡ [])
empty_loses result old new (inl goes) = call_loses_nothing old.now old new (λ image. requests_in image ≡ []) goes (λ each. each)
empty_loses result old new (inr later) =
    let P = λ (image : Image). requests_in image ≡ [] in
    let middle = later.0 in
    joined_losses old middle new P (call_loses_nothing old.now old middle P later.1 (λ each. each)) (reset_keeps middle new (reads_of middle.now) (requests_in (reads_of middle.now)) refl later.3.any_moment later.3.loses)
