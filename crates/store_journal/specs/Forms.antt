-- What an image holds of two forms, of which a newer one takes the place of an older one.
use Rattle.std.specs.Prelude.{◌≡◌, ◌⊎◌, ℕ, Bool, true, false, not, ◌&&◌, ◌||◌, List, [], Result, IfOk, OnOk, if◌then◌else◌}
use Rattle.outside.specs.Disks.{AtAnyMoment, DiskState, Goes, Image, IsImage, Moments, NeverLoses, reads_of, settled_disk}
use Rattle.store_journal.specs.Payloads.{is_live, payloads}
use Rattle.store_journal.specs.Journals.{IsInStep, JournalState}

-- whether a side of an image is live for a form
unfoldable pub has_form : ℕ → Image → Bool
has_form form image = is_live form image.a || is_live form image.b

-- While a form takes the place of an older one: the older one's payloads stay, and the new one isn't live, or is live
-- with its own payloads.
pub record ChangesForm (older newer : ℕ) (before after : List (List ℕ)) (image : Image) : Type 0 where
  pub kept : payloads older image ≡ before
  pub made : (has_form newer image ≡ false) ⊎ ((has_form newer image ≡ true) × (payloads newer image ≡ after))

-- a form is live where it was, with the payloads that it had
pub record HoldsFormAs (form : ℕ) (before image : Image) : Type 0 where
  pub live : has_form form image ≡ has_form form before
  pub same : payloads form image ≡ payloads form before

-- each form is live where it was, with the payloads that it had
abbrev pub HoldsSame : (before image : Image) → Type 0
HoldsSame before image = (form : ℕ) → HoldsFormAs form before image

-- Two forms have the payloads that they had, and the newer one is live where it was; where neither was, it may be live,
-- without payloads.
pub record HoldsForms (newer older : ℕ) (before image : Image) : Type 0 where
  pub newer_same : payloads newer image ≡ payloads newer before
  pub older_live : has_form older image ≡ has_form older before
  pub older_same : payloads older image ≡ payloads older before
  pub newer_live : (has_form newer image ≡ has_form newer before) ⊎ ((has_form newer before ≡ false) × (has_form older before ≡ false))

-- an image holds what an image of a disk held
pub record HoldsFormsOf (newer older : ℕ) (disk : DiskState) (image : Image) : Type 0 where
  pub before : Image
  pub was : IsImage disk before
  pub same : HoldsForms newer older before image

-- whether the older one of two forms counts: where it alone is live
abbrev pub older_counts : (newer older : ℕ) → Image → Bool
older_counts newer older image = not (has_form newer image) && has_form older image

-- the form that counts of two
abbrev pub found_form : (newer older : ℕ) → Image → ℕ
found_form newer older image = if older_counts newer older image then older else newer

-- An image holds what another held of the form that counts there: the same form counts, with the same payloads.
pub record CountsSame (newer older : ℕ) (before image : Image) : Type 0 where
  pub counts : older_counts newer older image ≡ older_counts newer older before
  pub same : payloads (found_form newer older before) image ≡ payloads (found_form newer older before) before

-- the form that counts has no payloads
abbrev pub CountsNone : (newer older : ℕ) → Image → Type 0
CountsNone newer older image = payloads (found_form newer older image) image ≡ []

-- an image holds what another held of the form that counts, or nothing counts
abbrev pub CountsSameOrNone : (newer older : ℕ) → (before image : Image) → Type 0
CountsSameOrNone newer older before image = CountsSame newer older before image ⊎ CountsNone newer older image

-- A run empties both sides of a disk, or fails while it does. At any moment, each image holds the payloads of the form that
-- counted at first, or nothing counts in it. Once nothing counts in any image, nothing counts at any later moment. After success,
-- the newer form is live without payloads, and the journal is in step.
pub record EmptiesSides {E : Type 0} (newer older : ℕ) (result : Result JournalState E) (old new : Moments) : Type 0 where
  pub any_moment : AtAnyMoment old new (CountsSameOrNone newer older (reads_of old.now))
  pub loses : NeverLoses old new (CountsNone newer older)
  pub emptied : OnOk result (payloads newer (reads_of new.now) ≡ [])
  pub live : OnOk result (has_form newer (reads_of new.now) ≡ true)
  pub in_step : IfOk result (λ journal. IsInStep journal new.now)

-- Images only become fewer until both sides are synced, and from then on both are emptied. It may end before that.
abbrev pub OpensEmpty : {E : Type 0} → (newer older : ℕ) → Result JournalState E → (old new : Moments) → Type 0
OpensEmpty newer older result old new = Goes old.now old new ⊎ ((middle : Moments) × Goes old.now old middle × (middle.now ≡ settled_disk (reads_of old.now)) × EmptiesSides newer older result middle new)
