-- Putting the records of a store of the earlier form beside it.
use Rattle.std.proofs.Common.{◌≡◌, ℕ, Bool, true, false, not, ◌&&◌, if◌then◌else◌, List, refl, sym, ap, subst, ◌∙◌, arith, inl}
use Rattle.outside.specs.Disks.{AtAnyMoment, DiskState, Image, IsDurable, Moments, reads_of}
use Rattle.outside.proofs.ImageLaws.{settled_disk_only}
use Rattle.outside.proofs.MomentLaws.{weaker_moments}
use Rattle.store_journal.specs.Forms.{ChangesForm, found_form, has_form}
use Rattle.store_journal.specs.Journals.{IsHealthy, IsInStep, JournalState, SideContent}
use Rattle.store_journal.specs.Payloads.{payloads}
use Rattle.store_journal.proofs.Forms.{counts_has_form}
use Rattle.store_form_2.specs.NodeContents.{contents_of as node_contents_of}
use Rattle.store_codec.specs.RecordTables.{requests_among}
use Rattle.store_form_2.specs.Migrating.{migrated_requests}
use Rattle.store.specs.Taking.{taken_payloads}
use Rattle.store.specs.Stored.{AreAllOrLatest, kept_payloads, requests_in}
use Rattle.store.proofs.Kept.{kept_older, migrated_among, requests_changed, requests_older}

-- a disk that a journal is in step with is durable,
pub in_step_durable : (journal : JournalState) (disk : DiskState) → IsInStep journal disk → IsDurable disk
in_step_durable journal disk in_step = subst IsDurable (sym in_step.settled) (settled_disk_only (reads_of disk))

-- and has its form
pub in_step_form : (journal : JournalState) (disk : DiskState) (form : ℕ) → IsInStep journal disk → journal.form ≡ form → has_form form (reads_of disk) ≡ true
in_step_form journal disk form in_step is = subst (λ (f : ℕ). has_form f (reads_of disk) ≡ true) is (counts_has_form journal.form (reads_of disk) journal.live in_step.counts)

module _ (reads : Image) (opened taken : List (List ℕ)) (none : has_form 3 reads ≡ false) (live : has_form 2 reads ≡ true) (are : payloads 2 reads ≡ opened) (records : requests_among taken ≡ migrated_requests (node_contents_of opened).records) (is : taken ≡ taken_payloads opened) where
  -- the payloads that are taken over stand for the records of the image before
  pub before_is : requests_in reads ≡ requests_among taken
  before_is = requests_older reads none live ∙ ap migrated_among are ∙ sym records

  pub kept_is : kept_payloads reads ≡ taken
  kept_is = kept_older reads none live ∙ ap taken_payloads are ∙ sym is

  same_in : (image : Image) → ChangesForm 2 3 (payloads 2 reads) taken image → requests_in image ≡ requests_in reads
  same_in image changes = requests_changed (payloads 2 reads) taken (records ∙ ap migrated_among (sym are)) image changes ∙ sym before_is

  -- so a stop leaves the same records
  pub change_leaves : (old new : Moments) (form : ℕ) (side : SideContent) → form ≡ 2 → side ≡ record { form = 3; generation = 1; payloads = taken } → AtAnyMoment old new (ChangesForm form side.form (payloads form reads) side.payloads)
      → AtAnyMoment old new (λ image. AreAllOrLatest (requests_in reads) (requests_in image))
  change_leaves old new form side form_is side_is moments =
      weaker_moments old new (ChangesForm form side.form (payloads form reads) side.payloads) (λ image. AreAllOrLatest (requests_in reads) (requests_in image))
      (λ image changes. inl (same_in image
      (subst (λ (f : ℕ). ChangesForm f 3 (payloads f reads) taken image) form_is
      (subst (λ (s : SideContent). ChangesForm form s.form (payloads form reads) s.payloads image) side_is changes)))) moments

-- where form 3 is live it is the one that is found,
pub found_live : (image : Image) → has_form 3 image ≡ true → found_form 3 2 image ≡ 3
found_live image live = ap (λ (b : Bool). if not b && has_form 2 image then 2 else 3) live

pub healthy_found : (image : Image) → IsHealthy 3 image → found_form 3 2 image ≡ 3
healthy_found image healthy = found_live image (counts_has_form 3 image healthy.live healthy.counts)

-- and where form 2 is found it isn't live
pub found_none : (image : Image) → found_form 3 2 image ≡ 2 → has_form 3 image ≡ false
found_none image found = by (has_form 3 image) refl
  where
    by : (b : Bool) → has_form 3 image ≡ b → b ≡ false
    by true live = absurd (omega (arith, found, found_live image live))
    by false live = refl
