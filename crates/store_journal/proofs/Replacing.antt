-- Putting a made side in the place of the one that counts.
use Rattle.std.proofs.Common.{◌≡◌, ℕ, ◌+◌, ◌<◌, ◌^◌, Bool, List, ◌∷◌, length, All, Some, sym, ap, subst, ◌∙◌, arith}
use Rattle.outside.specs.declared.disk.Side.{Side}
use Rattle.outside.specs.Disks.{DiskState, Moments, AtAnyMoment, NeverLoses, image_side, reads_of, on_side, settled}
use Rattle.store_journal.specs.Payloads.{counting, generation_of, payloads, side_bytes}
use Rattle.store_journal.specs.Journals.{JournalState, SideContent, IsInStep, other_side}
use Rattle.store_journal.specs.Steps.{Went, making}
use Rattle.store_journal.proofs.Counting.{other_again}
use Rattle.store_journal.proofs.Made.{HasEither, HasNew}
use Rattle.store_journal.proofs.Standing.{with_side, leaves_counted, making_moments, making_loses, made_disk, made_payloads, made_in_step, replaced_counts}

-- the conditions under which a journal replaces its side
pub record Replaces (journal : JournalState) (disk : DiskState) (side : Side) (bytes : List ℕ) (content : SideContent) : Type 0 where
  pub in_step : IsInStep journal disk
  pub other : side ≡ other_side journal.live
  pub form : content.form ≡ journal.form
  pub higher : content.generation ≡ journal.generation + 1
  pub below : content.generation < 2 ^ 64
  pub bytes_are : 1 ∷ bytes ≡ side_bytes content.form content.generation content.payloads
  pub small : All (λ (p : List ℕ). length p < 2 ^ 32) content.payloads

-- the side that counts is the other of the other one
pub live_is : (live side : Side) → side ≡ other_side live → live ≡ other_side side
live_is live side is = sym (other_again live) ∙ ap other_side (sym is)

-- until then the other side counts
pub other_is_live : (journal : JournalState) (disk : DiskState) (side : Side) (bytes : List ℕ) (content : SideContent) → Replaces journal disk side bytes content → counting journal.form (reads_of disk) ≡ Some (other_side side)
other_is_live journal disk side bytes content known = known.in_step.counts ∙ ap (λ (s : Side). Some s) (live_is journal.live side known.other)

-- the bytes are a side's in the journal's form
bytes_in_form : (journal : JournalState) (disk : DiskState) (side : Side) (bytes : List ℕ) (content : SideContent) → Replaces journal disk side bytes content → 1 ∷ bytes ≡ side_bytes journal.form content.generation content.payloads
bytes_in_form journal disk side bytes content known = known.bytes_are ∙ ap (λ (form : ℕ). side_bytes form content.generation content.payloads) known.form

-- once it is made, the side counts
made_counts : (journal : JournalState) (disk : DiskState) (side : Side) (bytes : List ℕ) (content : SideContent) → Replaces journal disk side bytes content → counting journal.form (with_side side (1 ∷ bytes) (reads_of disk)) ≡ Some side
made_counts journal disk side bytes content known =
    let generation : generation_of (image_side (other_side side) (reads_of disk)) ≡ journal.generation = ap (λ (s : Side). generation_of (image_side s (reads_of disk))) (sym (live_is journal.live side known.other)) ∙ known.in_step.generation in
    replaced_counts journal.form content.generation side (1 ∷ bytes) (reads_of disk) content.payloads (bytes_in_form journal disk side bytes content known) known.below
    (other_is_live journal disk side bytes content known) (omega (arith, generation, known.higher))

-- and has its payloads
gives : (journal : JournalState) (disk : DiskState) (side : Side) (bytes : List ℕ) (content : SideContent) → Replaces journal disk side bytes content → payloads journal.form (with_side side (1 ∷ bytes) (reads_of disk)) ≡ content.payloads
gives journal disk side bytes content known =
    made_payloads journal.form content.generation side (1 ∷ bytes) (reads_of disk) content.payloads (bytes_in_form journal disk side bytes content known) known.small (made_counts journal disk side bytes content known)

-- At any moment the payloads are the old ones, or those of the made side.
pub replacing_moments : (journal : JournalState) (side : Side) (bytes : List ℕ) (content : SideContent) (old new : Moments) → Replaces journal old.now side bytes content → Went (making side bytes old.now) old new → AtAnyMoment old new (HasEither journal.form (payloads journal.form (reads_of old.now)) content.payloads)
replacing_moments journal side bytes content old new known went =
    making_moments journal.form side bytes (reads_of old.now) (payloads journal.form (reads_of old.now)) content.payloads old new known.in_step.settled
    (leaves_counted journal.form side (reads_of old.now) (other_is_live journal old.now side bytes content known)) (gives journal old.now side bytes content known) went

-- Once each image has those of the made side, each image has them.
pub replacing_loses : (journal : JournalState) (side : Side) (bytes : List ℕ) (content : SideContent) (old new : Moments) → Replaces journal old.now side bytes content → Went (making side bytes old.now) old new → NeverLoses old new (HasNew journal.form content.payloads)
replacing_loses journal side bytes content old new known went =
    making_loses journal.form side bytes (reads_of old.now) (payloads journal.form (reads_of old.now)) content.payloads old new known.in_step.settled
    (leaves_counted journal.form side (reads_of old.now) (other_is_live journal old.now side bytes content known)) (gives journal old.now side bytes content known) went

-- after the last step they are those of the made side
pub replaced_payloads : (journal : JournalState) (side : Side) (bytes : List ℕ) (content : SideContent) (old new : DiskState) → Replaces journal old side bytes content → new ≡ on_side side (λ _. settled (1 ∷ bytes)) old → payloads journal.form (reads_of new) ≡ content.payloads
replaced_payloads journal side bytes content old new known made =
    ap (λ (d : DiskState). payloads journal.form (reads_of d)) (made_disk side (1 ∷ bytes) (reads_of old) old new known.in_step.settled made) ∙ gives journal old side bytes content known

in_step_after : (journal : JournalState) (side : Side) (bytes : List ℕ) (content : SideContent) (old new : DiskState) (broken : Bool) → Replaces journal old side bytes content → new ≡ on_side side (λ _. settled (1 ∷ bytes)) old
    → IsInStep (record { form = journal.form; live = side; generation = content.generation; len = length bytes + 1; broken = broken }) new
in_step_after journal side bytes content old new broken known made =
    let after : JournalState = record { form = journal.form; live = side; generation = content.generation; len = length bytes + 1; broken = broken } in
    subst (IsInStep after) (sym (made_disk side (1 ∷ bytes) (reads_of old) old new known.in_step.settled made))
    (made_in_step after (1 ∷ bytes) (reads_of old) content.payloads (bytes_in_form journal old side bytes content known) known.small known.below (omega arith) (made_counts journal old side bytes content known))

-- the journal of the made side is in step
pub replaced_in_step : (journal after : JournalState) (side : Side) (bytes : List ℕ) (content : SideContent) (old new : DiskState) → Replaces journal old side bytes content → new ≡ on_side side (λ _. settled (1 ∷ bytes)) old
    → after.form ≡ journal.form → after.live ≡ side → after.generation ≡ content.generation → after.len ≡ length bytes + 1 → IsInStep after new
replaced_in_step journal after side bytes content old new known made form live generation len =
    let same : after ≡ record { form = journal.form; live = side; generation = content.generation; len = length bytes + 1; broken = after.broken } = λ i. record { form = form i; live = live i; generation = generation i; len = len i; broken = after.broken } in
    subst (λ (j : JournalState). IsInStep j new) (sym same) (in_step_after journal side bytes content old new after.broken known made)
