-- Making a side of a newer form beside the one that counts for an older one.
use Rattle.std.proofs.Common.{◌≡◌, ◌≢◌, ℕ, ◌+◌, ◌<◌, ◌^◌, Bool, true, false, List, [], ◌∷◌, length, take, All, Some, refl, sym, ap, subst, ◌∙◌, arith, inl, inr}
use Rattle.std.specs.List.{AllByRecursion}
use Rattle.std.proofs.lemmas.Bool.{cases_eq}
use Rattle.outside.specs.declared.disk.Side.{Side}
use Rattle.outside.specs.Disks.{AtAnyMoment, DiskState, EachImage, Image, Moments, NeverLoses, cutting, image_side, on_side, reads_of, settled, writing}
use Rattle.store_journal.specs.Forms.{ChangesForm, has_form}
use Rattle.store_journal.specs.Journals.{IsInStep, JournalState, SideContent, other_side}
use Rattle.store_journal.specs.Payloads.{counting, is_live, payloads, side_bytes}
use Rattle.store_journal.specs.Steps.{Step, Went, making}
use Rattle.store_journal.proofs.Counting.{counting_none, dead_prefix, first_dead, none_dead, only_counts, paired, paired_again, short_dead, zero_dead}
use Rattle.store_journal.proofs.Forms.{has_form_paired, no_form_counts, no_form_paired, other_form_dead}
use Rattle.store_journal.proofs.Made.{made_steps}
use Rattle.store_journal.proofs.Replacing.{live_is}
use Rattle.store_journal.proofs.Settled.{settled_each}
use Rattle.store_journal.proofs.SideBytes.{side_live}
use Rattle.store_journal.proofs.SideImages.{byte_image, cut_image, dead_image, each_of_one, first_image, paired_image, settled_states, states}
use Rattle.store_journal.proofs.Standing.{LeavesImage, leaves_counted, made_disk, made_in_step, made_payloads, steps_are, with_side}
use Rattle.store_journal.proofs.Went.{HandsOn, went_loses, went_moments}

-- live for no form
abbrev pub IsDead : List ℕ → Type 0
IsDead bytes = (form : ℕ) → is_live form bytes ≡ false

by_first : (P : Image → Type 0) (side : Side) (bytes other : List ℕ) → ((left : List ℕ) → IsDead left → P (paired side left other)) → P (paired side (1 ∷ bytes) other) → (byte : ℕ) → P (paired side (byte ∷ bytes) other)
by_first P side bytes other dead made byte =
    elim (cases_eq byte 1) [
      | inl is ↦ subst (λ (n : ℕ). P (paired side (n ∷ bytes) other)) (sym is) made
      | inr differs ↦ dead (byte ∷ bytes) (λ form. first_dead form byte bytes differs)
    ]

-- Inside of each step of making a side each image has what an image has whose side is a prefix of the old one, or dead, or
-- made.
pub making_each : (P : Image → Type 0) (side : Side) (bytes one other : List ℕ) → ((k : ℕ) → P (paired side (take k one) other)) → ((left : List ℕ) → IsDead left → P (paired side left other)) → P (paired side (1 ∷ bytes) other) → AllByRecursion (λ (step : Step). EachImage P step.during) (made_steps side bytes one other)
making_each P side bytes one other prefix dead made =
    let shown : List ℕ → Type 0 = λ left. P (paired side left other) in (
      each_of_one P side (cutting (settled one)) other (λ left is. subst shown (sym (cut_image one left is)) (prefix (length left))),
      (
        each_of_one P side (writing 0 1 (settled [])) other (λ left is. dead left (λ form. short_dead form left (byte_image left is))),
        (
          each_of_one P side (writing 1 (length bytes) (settled (0 ∷ []))) other (λ left is.
              let parts = dead_image (length bytes) left is in
              subst shown (sym parts.1) (dead (0 ∷ parts.0) (λ form. zero_dead form parts.0))),
          (
            each_of_one P side (writing 0 1 (settled (0 ∷ bytes))) other (λ left is.
                let parts = first_image 0 bytes left is in
                subst shown (sym parts.1) (by_first P side bytes other dead made parts.0)),
            tt,
          ),
        ),
      ),
    )

abbrev pub HasForm : (form : ℕ) → Image → Type 0
HasForm form image = has_form form image ≡ true

-- where an image hasn't the form, not each one has it
without : (form : ℕ) (side : Side) (left other : List ℕ) (during : DiskState) → is_live form left ≡ false → is_live form other ≡ false → EachImage (HasForm form) (states side (settled left) (settled other)) → EachImage (HasForm form) during
without form side left other during dead gone had =
    let not_there = no_form_paired form side left other dead gone in
    let there = had (paired side left other) (paired_image side left other) in
    let nothing : ⊥ = cc (not_there, there) in
    absurd nothing

-- so each step hands on that each image has it
making_hands : (form : ℕ) (side : Side) (bytes one other : List ℕ) → is_live form one ≡ false → is_live form other ≡ false → HandsOn (HasForm form) (states side (settled one) (settled other)) (made_steps side bytes one other)
making_hands form side bytes one other dead gone = (
  without form side one other _ dead gone,
  (
    without form side [] other _ (none_dead form) gone,
    (
      without form side (0 ∷ []) other _ (zero_dead form []) gone,
      (without form side (0 ∷ bytes) other _ (zero_dead form bytes) gone, tt),
    ),
  ),
)

-- the conditions under which a journal changes to a newer form
pub record Changes (journal : JournalState) (disk : DiskState) (side : Side) (bytes : List ℕ) (content : SideContent) : Type 0 where
  pub in_step : IsInStep journal disk
  pub other : side ≡ other_side journal.live
  pub form : content.form ≢ journal.form
  pub first : content.generation ≡ 1
  pub none : has_form content.form (reads_of disk) ≡ false
  pub bytes_are : 1 ∷ bytes ≡ side_bytes content.form content.generation content.payloads
  pub small : All (λ (p : List ℕ). length p < 2 ^ 32) content.payloads

-- neither side is live for the new form,
dead_sides : (journal : JournalState) (disk : DiskState) (side : Side) (bytes : List ℕ) (content : SideContent) → Changes journal disk side bytes content → (is_live content.form (image_side side (reads_of disk)) ≡ false) × (is_live content.form (image_side (other_side side) (reads_of disk)) ≡ false)
dead_sides journal disk side bytes content known =
    let image = reads_of disk in
    counting_none content.form side (image_side side image) (image_side (other_side side) image) (ap (counting content.form) (sym (paired_again side image)) ∙ no_form_counts content.form image known.none)

-- and the made one is, for that form alone
made_live : (journal : JournalState) (disk : DiskState) (side : Side) (bytes : List ℕ) (content : SideContent) → Changes journal disk side bytes content → is_live content.form (1 ∷ bytes) ≡ true
made_live journal disk side bytes content known = ap (is_live content.form) known.bytes_are ∙ side_live content.form content.generation content.payloads

made_dead : (journal : JournalState) (disk : DiskState) (side : Side) (bytes : List ℕ) (content : SideContent) → Changes journal disk side bytes content → is_live journal.form (1 ∷ bytes) ≡ false
made_dead journal disk side bytes content known = other_form_dead content.form journal.form (1 ∷ bytes) (λ same. known.form (sym same)) (made_live journal disk side bytes content known)

-- so it counts for it,
made_counts : (journal : JournalState) (disk : DiskState) (side : Side) (bytes : List ℕ) (content : SideContent) → Changes journal disk side bytes content → counting content.form (with_side side (1 ∷ bytes) (reads_of disk)) ≡ Some side
made_counts journal disk side bytes content known =
    only_counts content.form side (1 ∷ bytes) (image_side (other_side side) (reads_of disk)) (made_live journal disk side bytes content known) (dead_sides journal disk side bytes content known).1

-- and gives its payloads
gives : (journal : JournalState) (disk : DiskState) (side : Side) (bytes : List ℕ) (content : SideContent) → Changes journal disk side bytes content → payloads content.form (with_side side (1 ∷ bytes) (reads_of disk)) ≡ content.payloads
gives journal disk side bytes content known =
    made_payloads content.form content.generation side (1 ∷ bytes) (reads_of disk) content.payloads known.bytes_are known.small (made_counts journal disk side bytes content known)

-- until then the other side counts for the old form, and this one can be torn
leaves_old : (journal : JournalState) (disk : DiskState) (side : Side) (bytes : List ℕ) (content : SideContent) → Changes journal disk side bytes content → LeavesImage journal.form side (reads_of disk) (payloads journal.form (reads_of disk))
leaves_old journal disk side bytes content known =
    leaves_counted journal.form side (reads_of disk) (known.in_step.counts ∙ ap (λ (s : Side). Some s) (live_is journal.live side known.other))

abbrev Changing : (journal : JournalState) (disk : DiskState) (content : SideContent) → Image → Type 0
Changing journal disk content = ChangesForm journal.form content.form (payloads journal.form (reads_of disk)) content.payloads

-- inside of each step
changing_each : (journal : JournalState) (disk : DiskState) (side : Side) (bytes : List ℕ) (content : SideContent) → Changes journal disk side bytes content → AllByRecursion (λ (step : Step). EachImage (Changing journal disk content) step.during) (made_steps side bytes (image_side side (reads_of disk)) (image_side (other_side side) (reads_of disk)))
changing_each journal disk side bytes content known =
    let one = image_side side (reads_of disk) in
    let other = image_side (other_side side) (reads_of disk) in
    let dead = dead_sides journal disk side bytes content known in
    let leaves = leaves_old journal disk side bytes content known in
    making_each (Changing journal disk content) side bytes one other
    (λ k. record { kept = leaves.prefix k; made = inl (no_form_paired content.form side (take k one) other (dead_prefix content.form k one dead.0) dead.1) })
    (λ left gone. record { kept = leaves.dead left (gone journal.form); made = inl (no_form_paired content.form side left other (gone content.form) dead.1) })
    (record {
      kept = leaves.dead (1 ∷ bytes) (made_dead journal disk side bytes content known);
      made = inr (has_form_paired content.form side (1 ∷ bytes) other (made_live journal disk side bytes content known) dead.1, gives journal disk side bytes content known);
    })

-- At any moment the old form has its payloads, and the new one isn't live, or has those of the made side.
pub changing_moments : (journal : JournalState) (side : Side) (bytes : List ℕ) (content : SideContent) (old new : Moments) → Changes journal old.now side bytes content → Went (making side bytes old.now) old new → AtAnyMoment old new (ChangesForm journal.form content.form (payloads journal.form (reads_of old.now)) content.payloads)
changing_moments journal side bytes content old new known went =
    let P = Changing journal old.now content in
    let before : EachImage P old.now = subst (EachImage P) (sym known.in_step.settled) (settled_each P (reads_of old.now) (record { kept = refl; made = inl known.none })) in
    went_moments (making side bytes old.now) old new P went before
    (subst (AllByRecursion (λ (step : Step). EachImage P step.during)) (sym (steps_are side bytes (reads_of old.now) old.now known.in_step.settled)) (changing_each journal old.now side bytes content known))

-- Once the new form is live in each image, it is live in each.
pub changing_loses : (journal : JournalState) (side : Side) (bytes : List ℕ) (content : SideContent) (old new : Moments) → Changes journal old.now side bytes content → Went (making side bytes old.now) old new → NeverLoses old new (λ image. has_form content.form image ≡ true)
changing_loses journal side bytes content old new known went =
    let P = HasForm content.form in
    let one = image_side side (reads_of old.now) in
    let other = image_side (other_side side) (reads_of old.now) in
    let dead = dead_sides journal old.now side bytes content known in
    let hands : HandsOn P old.now (made_steps side bytes one other) = subst (λ (d : DiskState). HandsOn P d (made_steps side bytes one other)) (sym (known.in_step.settled ∙ settled_states side (reads_of old.now))) (making_hands content.form side bytes one other dead.0 dead.1) in
    went_loses (making side bytes old.now) old new P went (subst (HandsOn P old.now) (sym (steps_are side bytes (reads_of old.now) old.now known.in_step.settled)) hands)

-- after the last step the new form has the payloads of the made side,
pub changed_payloads : (journal : JournalState) (side : Side) (bytes : List ℕ) (content : SideContent) (old new : DiskState) → Changes journal old side bytes content → new ≡ on_side side (λ _. settled (1 ∷ bytes)) old → payloads content.form (reads_of new) ≡ content.payloads
changed_payloads journal side bytes content old new known made =
    ap (λ (d : DiskState). payloads content.form (reads_of d)) (made_disk side (1 ∷ bytes) (reads_of old) old new known.in_step.settled made) ∙ gives journal old side bytes content known

in_step_after : (journal : JournalState) (side : Side) (bytes : List ℕ) (content : SideContent) (old new : DiskState) (broken : Bool) → Changes journal old side bytes content → new ≡ on_side side (λ _. settled (1 ∷ bytes)) old
    → IsInStep (record { form = content.form; live = side; generation = content.generation; len = length bytes + 1; broken = broken }) new
in_step_after journal side bytes content old new broken known made =
    let after : JournalState = record { form = content.form; live = side; generation = content.generation; len = length bytes + 1; broken = broken } in
    subst (IsInStep after) (sym (made_disk side (1 ∷ bytes) (reads_of old) old new known.in_step.settled made))
    (made_in_step after (1 ∷ bytes) (reads_of old) content.payloads known.bytes_are known.small (omega (arith, known.first)) (omega arith) (made_counts journal old side bytes content known))

-- and the journal of it is in step
pub changed_in_step : (journal after : JournalState) (side : Side) (bytes : List ℕ) (content : SideContent) (old new : DiskState) → Changes journal old side bytes content → new ≡ on_side side (λ _. settled (1 ∷ bytes)) old
    → after.form ≡ content.form → after.live ≡ side → after.generation ≡ content.generation → after.len ≡ length bytes + 1 → IsInStep after new
changed_in_step journal after side bytes content old new known made form live generation len =
    let same : after ≡ record { form = content.form; live = side; generation = content.generation; len = length bytes + 1; broken = after.broken } = λ i. record { form = form i; live = live i; generation = generation i; len = len i; broken = after.broken } in
    subst (λ (j : JournalState). IsInStep j new) (sym same) (in_step_after journal side bytes content old new after.broken known made)
