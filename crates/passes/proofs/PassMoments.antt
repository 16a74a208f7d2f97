-- Which passes stops can leave, from what they leave of the journal.
use Rattle.std.proofs.Common.{◌≡◌, ℕ, ◌+◌, Bool, true, false, not, ◌&&◌, List, [], ◌∷◌, ◌++◌, length, refl, sym, ap, subst, ◌∙◌, inl, inr, arith, length-append}
use Rattle.std.specs.Prelude.{Result, if◌then◌else◌}
use Rattle.outside.specs.Disks.{AtAnyMoment, DiskState, Image, IsDurable, IsEither, IsImage, Moments, NeverLoses, OpensWith, reads_of}
use Rattle.outside.proofs.MomentLaws.{call_loses_nothing, joined_losses, joined_moments, started_moments, weaker_moments}
use Rattle.outside.proofs.ImageLaws.{settled_disk_only}
use Rattle.store_journal.specs.Forms.{CountsNone, CountsSameOrNone, OpensEmpty, found_form, has_form}
use Rattle.store_journal.specs.Journals.{HasPayloadsOf, JournalState}
use Rattle.store_journal.specs.Payloads.{payloads}
use Rattle.store_journal.proofs.Losing.{always_had, losses_as}
use Rattle.passes_spec.specs.Passes.{IsAllOrLast, Pass, last_passes}
use Rattle.passes_codec.specs.PassTables.{pass_table_of, passes_among}
use Rattle.passes.specs.Stored.{HasPassesOf, IsPassStoreInStep, PassStoreState, passes_in}

-- no payloads have no pass
pub none_among : passes_among [] ≡ []
unfolding pass_table_of
none_among = refl

-- no list is itself with one item more
no_longer : (passes : List Pass) (pass : Pass) → passes ≡ passes ++ pass ∷ [] → ⊥
no_longer passes pass is =
    let count : length passes ≡ length passes + 1 = ap length is ∙ length-append passes (pass ∷ []) in
    absurd (omega arith)

-- a stop can leave of a disk that a store is in step with what reads give
pub in_step_durable : (store : PassStoreState) (disk : DiskState) → IsPassStoreInStep store disk → IsDurable disk
in_step_durable store disk in_step = subst IsDurable (sym in_step.journal_in_step.settled) (settled_disk_only (reads_of disk))

module _ (old new : Moments) (reads : Image) where
  -- what a stop can leave of the journal, from these payloads to those
  abbrev pub Left : List (List ℕ) → Image → Type 0
  Left after image = IsEither (payloads 5 image) (payloads 5 reads) after

  -- the passes from before, with the new one or without
  pub commit_leaves : (payload : List ℕ) (pass : Pass) → passes_among (payloads 5 reads ++ payload ∷ []) ≡ passes_in reads ++ pass ∷ [] → AtAnyMoment old new (Left (payloads 5 reads ++ payload ∷ []))
      → AtAnyMoment old new (λ image. IsEither (passes_in image) (passes_in reads) (passes_in reads ++ pass ∷ []))
  commit_leaves payload pass is moments = weaker_moments old new (Left (payloads 5 reads ++ payload ∷ [])) (λ image. IsEither (passes_in image) (passes_in reads) (passes_in reads ++ pass ∷ [])) to moments where
    to : (image : Image) → Left (payloads 5 reads ++ payload ∷ []) image → IsEither (passes_in image) (passes_in reads) (passes_in reads ++ pass ∷ [])
    to image (inl same) = inl (ap passes_among same)
    to image (inr more) = inr (ap passes_among more ∙ is)

  -- once each image has the new one, each has it
  pub commit_keeps : (payload : List ℕ) (pass : Pass) → passes_among (payloads 5 reads ++ payload ∷ []) ≡ passes_in reads ++ pass ∷ [] → AtAnyMoment old new (Left (payloads 5 reads ++ payload ∷ []))
      → NeverLoses old new (λ image. payloads 5 image ≡ payloads 5 reads ++ payload ∷ []) → NeverLoses old new (λ image. passes_in image ≡ passes_in reads ++ pass ∷ [])
  commit_keeps payload pass is moments never = losses_as old new (Left (payloads 5 reads ++ payload ∷ [])) (λ image. payloads 5 image ≡ payloads 5 reads ++ payload ∷ []) (λ image. passes_in image ≡ passes_in reads ++ pass ∷ []) to from moments never where
    to : (image : Image) → Left (payloads 5 reads ++ payload ∷ []) image → passes_in image ≡ passes_in reads ++ pass ∷ [] → payloads 5 image ≡ payloads 5 reads ++ payload ∷ []
    to image (inl same) has = absurd (no_longer (passes_in reads) pass (sym (ap passes_among same) ∙ has))
    to image (inr more) has = more

    from : (image : Image) → Left (payloads 5 reads ++ payload ∷ []) image → payloads 5 image ≡ payloads 5 reads ++ payload ∷ [] → passes_in image ≡ passes_in reads ++ pass ∷ []
    from image left more = ap passes_among more ∙ is

  -- the passes from before, or the last of these
  pub compact_leaves : (after : List (List ℕ)) → passes_among after ≡ last_passes (passes_in reads) → AtAnyMoment old new (Left after) → AtAnyMoment old new (λ image. IsAllOrLast (passes_in reads) (passes_in image))
  compact_leaves after is moments = weaker_moments old new (Left after) (λ image. IsAllOrLast (passes_in reads) (passes_in image)) to moments where
    to : (image : Image) → Left after image → IsAllOrLast (passes_in reads) (passes_in image)
    to image (inl same) = inl (ap passes_among same)
    to image (inr kept) = inr (ap passes_among kept ∙ is)

-- ## Opening

-- the passes of an image at entry
pub open_leaves : (old new : Moments) → AtAnyMoment old new (HasPayloadsOf 5 old.now) → AtAnyMoment old new (HasPassesOf old.now)
open_leaves old new moments = weaker_moments old new (HasPayloadsOf 5 old.now) (HasPassesOf old.now) (λ image has. record { before = has.before; was = has.was; kept = inl (ap passes_among has.same) }) moments

-- and once both sides are synced those of what reads gave
pub open_opens : (old new : Moments) (reads : Image) → OpensWith old new (λ image. payloads 5 image ≡ payloads 5 reads) → OpensWith old new (λ image. IsAllOrLast (passes_in reads) (passes_in image))
open_opens old new reads (inl goes) = inl goes
open_opens old new reads (inr later) =
    inr (later.0, later.1, weaker_moments later.0 new (λ image. payloads 5 image ≡ payloads 5 reads) (λ image. IsAllOrLast (passes_in reads) (passes_in image)) (λ image same. inl (ap passes_among same)) later.2)

-- an opening that goes on, whose passes are those that reads gave
module _ (old middle new : Moments) (same : passes_in (reads_of middle.now) ≡ passes_in (reads_of old.now)) (goes_on : AtAnyMoment middle new (λ image. IsAllOrLast (passes_in (reads_of middle.now)) (passes_in image))) where
  second : AtAnyMoment middle new (λ image. IsAllOrLast (passes_in (reads_of old.now)) (passes_in image))
  second = subst (λ (ps : List Pass). AtAnyMoment middle new (λ image. IsAllOrLast ps (passes_in image))) same goes_on

  pub then_leaves : IsImage old.now (reads_of old.now) → AtAnyMoment old middle (HasPassesOf old.now) → AtAnyMoment old new (HasPassesOf old.now)
  then_leaves sound first = joined_moments old middle new (HasPassesOf old.now) first
      (weaker_moments middle new (λ image. IsAllOrLast (passes_in (reads_of old.now)) (passes_in image)) (HasPassesOf old.now) (λ image kept. record { before = reads_of old.now; was = sound; kept = kept }) second)

  pub then_opens : OpensWith old middle (λ image. IsAllOrLast (passes_in (reads_of old.now)) (passes_in image)) → OpensWith old new (λ image. IsAllOrLast (passes_in (reads_of old.now)) (passes_in image))
  then_opens (inl goes) = inr (middle, goes, second)
  then_opens (inr later) = inr (later.0, later.1, joined_moments later.0 middle new (λ image. IsAllOrLast (passes_in (reads_of old.now)) (passes_in image)) later.2 second)

-- a disk that a store is in step with, while nothing happens
pub still_leaves : (moments : Moments) (store : PassStoreState) → IsPassStoreInStep store moments.now → AtAnyMoment moments moments (λ image. IsAllOrLast (passes_in (reads_of moments.now)) (passes_in image))
still_leaves moments store in_step = started_moments moments (λ image. IsAllOrLast (passes_in (reads_of moments.now)) (passes_in image)) (λ image is. inl (ap passes_in (in_step_durable store moments.now in_step image is)))

-- ## Emptying

-- one form alone counts
five_by : (live : Bool) → ◌≡◌ {A = ℕ} (if not live && live then 5 else 5) 5
five_by true = refl
five_by false = refl

five_found : (image : Image) → found_form 5 5 image ≡ 5
five_found image = five_by (has_form 5 image)

module _ (reads : Image) where
  -- an image of a disk that is emptied has the payloads from before, or none
  emptied_as : (image : Image) → CountsSameOrNone 5 5 reads image → IsEither (payloads 5 image) (payloads 5 reads) []
  emptied_as image (inl same) = inl (subst (λ (f : ℕ). payloads f image ≡ payloads f reads) (five_found reads) same.same)
  emptied_as image (inr none) = inr (subst (λ (f : ℕ). payloads f image ≡ []) (five_found image) none)

  none_as : (image : Image) → payloads 5 image ≡ [] → CountsNone 5 5 image
  none_as image none = subst (λ (f : ℕ). payloads f image ≡ []) (sym (five_found image)) none

  pub empty_leaves : (old new : Moments) → AtAnyMoment old new (CountsSameOrNone 5 5 reads) → AtAnyMoment old new (λ image. IsEither (passes_in image) (passes_in reads) [])
  empty_leaves old new moments = weaker_moments old new (CountsSameOrNone 5 5 reads) (λ image. IsEither (passes_in image) (passes_in reads) []) (λ image has. to image (emptied_as image has)) moments where
    to : (image : Image) → IsEither (payloads 5 image) (payloads 5 reads) [] → IsEither (passes_in image) (passes_in reads) []
    to image (inl same) = inl (ap passes_among same)
    to image (inr none) = inr (ap passes_among none ∙ none_among)

  -- once no image has a pass, none has one
  empty_keeps : (old new : Moments) (before : List Pass) → passes_in reads ≡ before → AtAnyMoment old new (CountsSameOrNone 5 5 reads) → NeverLoses old new (CountsNone 5 5) → NeverLoses old new (λ image. passes_in image ≡ [])
  empty_keeps old new [] is moments never = always_had old new (λ image. passes_in image ≡ []) (weaker_moments old new (CountsSameOrNone 5 5 reads) (λ image. passes_in image ≡ []) (λ image has. to image (emptied_as image has)) moments) where
    to : (image : Image) → IsEither (payloads 5 image) (payloads 5 reads) [] → passes_in image ≡ []
    to image (inl same) = ap passes_among same ∙ is
    to image (inr none) = ap passes_among none ∙ none_among
  empty_keeps old new (first ∷ rest) is moments never = losses_as old new (CountsSameOrNone 5 5 reads) (CountsNone 5 5) (λ image. passes_in image ≡ []) (λ image has. to image (emptied_as image has)) from moments never where
    some : (passes : List Pass) → passes ≡ first ∷ rest → passes ≡ [] → ⊥
    some passes one none = let nothing : ◌≡◌ {A = List Pass} (first ∷ rest) [] = sym one ∙ none in absurd cc

    to : (image : Image) → IsEither (payloads 5 image) (payloads 5 reads) [] → passes_in image ≡ [] → CountsNone 5 5 image
    to image (inl same) has = absurd (some (passes_in reads) is (sym (ap passes_among same) ∙ has))
    to image (inr none) has = none_as image none

    from : (image : Image) → CountsSameOrNone 5 5 reads image → CountsNone 5 5 image → passes_in image ≡ []
    from image left none = ap passes_among (subst (λ (f : ℕ). payloads f image ≡ []) (five_found image) none) ∙ none_among

-- a disk that is emptied: the passes of what reads gave, or none,
pub empty_opens : {E : Type 0} (result : Result JournalState E) (old new : Moments) → OpensEmpty 5 5 result old new → OpensWith old new (λ image. IsEither (passes_in image) (passes_in (reads_of old.now)) [])
empty_opens result old new (inl goes) = inl goes
empty_opens result old new (inr later) =
    let middle = later.0 in
    let same : reads_of middle.now ≡ reads_of old.now = ap reads_of later.2 in
    inr (middle, later.1, subst (λ (reads : Image). AtAnyMoment middle new (λ image. IsEither (passes_in image) (passes_in reads) [])) same (empty_leaves (reads_of middle.now) middle new later.3.any_moment))

-- and once no image has a pass, none has one
pub empty_loses : {E : Type 0} (result : Result JournalState E) (old new : Moments) → OpensEmpty 5 5 result old new → NeverLoses old new (λ image. passes_in image ≡ [])
empty_loses result old new (inl goes) = call_loses_nothing old.now old new (λ image. passes_in image ≡ []) goes (λ each. each)
empty_loses result old new (inr later) =
    let P = λ (image : Image). passes_in image ≡ [] in
    let middle = later.0 in
    joined_losses old middle new P (call_loses_nothing old.now old middle P later.1 (λ each. each)) (empty_keeps (reads_of middle.now) middle new (passes_in (reads_of middle.now)) refl later.3.any_moment later.3.loses)
