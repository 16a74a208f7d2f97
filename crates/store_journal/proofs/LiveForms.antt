-- The form of a journal stays live while a payload is committed and while the side that counts is replaced.
use Rattle.std.proofs.Common.{◌≡◌, ℕ, ◌-◌, true, List, ◌∷◌, length, take, Some, sym, subst}
use Rattle.std.specs.List.{AllByRecursion}
use Rattle.outside.specs.declared.disk.Side.{Side}
use Rattle.outside.specs.Disks.{AtAnyMoment, DiskState, EachImage, Image, Moments, image_side, on_side, reads_of, settled_disk, writing}
use Rattle.store_journal.specs.Forms.{has_form}
use Rattle.store_journal.specs.Journals.{IsInStep, JournalState, SideContent, other_side}
use Rattle.store_journal.specs.Payloads.{counting, is_live, payloads}
use Rattle.store_journal.specs.Steps.{Step, Went, committing, making}
use Rattle.store_journal.proofs.Changing.{HasForm, making_each}
use Rattle.store_journal.proofs.Commits.{Holds, after_bytes, after_holds, after_write, commit_byte_counts, in_step_holds, write_settles, written_after}
use Rattle.store_journal.proofs.Counting.{counting_live}
use Rattle.store_journal.proofs.Forms.{counts_has_form, other_has_form}
use Rattle.store_journal.proofs.CommitBytes.{Small}
use Rattle.store_journal.proofs.Replacing.{Replaces, other_is_live}
use Rattle.store_journal.proofs.Settled.{settled_each}
use Rattle.store_journal.proofs.Standing.{steps_are}
use Rattle.store_journal.proofs.Torn.{torn_image}
use Rattle.store_journal.proofs.Went.{went_moments}

commit_stays : (form : ℕ) (side : Side) (generation len : ℕ) (list : List (List ℕ)) (payload : List ℕ) (image : Image) (old new : Moments) → Holds form side generation len list image → Small payload → old.now ≡ settled_disk image → Went (committing side len (after_bytes payload) (settled_disk image)) old new → AtAnyMoment old new (HasForm form)
unfolding committing
commit_stays form side generation len list payload image old new holds small is went =
    let P = HasForm form in
    let live : (now : Image) → counting form now ≡ Some side → has_form form now ≡ true = λ now counts. counts_has_form form now side counts in
    let middle = after_write side len (after_bytes payload) image in
    let before : EachImage P old.now = subst (EachImage P) (sym is) (settled_each P image (live image holds.counts)) in
    let first : EachImage P (on_side side (writing len (length (after_bytes payload))) (settled_disk image)) = λ now torn.
    live now (after_holds form side generation len (length (after_bytes payload)) list image now holds (torn_image side len (length (after_bytes payload)) image now torn)).counts in
    let more = written_after form side generation len list payload image holds small in
    let then : EachImage P (on_side side (writing (len - 1) 1) (settled_disk middle)) = λ now torn.
    live now (commit_byte_counts form side generation len list payload middle now more (torn_image side (len - 1) 1 middle now torn)) in
    let second = subst (λ (disk : DiskState). EachImage P (on_side side (writing (len - 1) 1) disk)) (sym (write_settles side len (after_bytes payload) image)) then in
    went_moments (committing side len (after_bytes payload) (settled_disk image)) old new P went before (first, (second, tt))

pub commit_live : (journal : JournalState) (payload bytes : List ℕ) (old new : Moments) → IsInStep journal old.now → Small payload → bytes ≡ after_bytes payload → Went (committing journal.live journal.len bytes old.now) old new → AtAnyMoment old new (λ image. has_form journal.form image ≡ true)
commit_live journal payload bytes old new in_step small is went =
    let image = reads_of old.now in
    let there = subst (λ (l : List ℕ). Went (committing journal.live journal.len l old.now) old new) is went in
    let here = subst (λ (disk : DiskState). Went (committing journal.live journal.len (after_bytes payload) disk) old new) in_step.settled there in
    commit_stays journal.form journal.live journal.generation journal.len (payloads journal.form image) payload image old new (in_step_holds journal old.now in_step) small in_step.settled here

pub replacing_live : (journal : JournalState) (side : Side) (bytes : List ℕ) (content : SideContent) (old new : Moments) → Replaces journal old.now side bytes content → Went (making side bytes old.now) old new → AtAnyMoment old new (λ image. has_form journal.form image ≡ true)
replacing_live journal side bytes content old new known went =
    let P = HasForm journal.form in
    let image = reads_of old.now in
    let other = image_side (other_side side) (reads_of old.now) in
    let live : is_live journal.form (image_side (other_side side) (reads_of old.now)) ≡ true = counting_live journal.form image (other_side side) (other_is_live journal old.now side bytes content known) in
    let each = λ (left : List ℕ). other_has_form journal.form side left other live in
    let before : EachImage P old.now = subst (EachImage P) (sym known.in_step.settled) (settled_each P image (counts_has_form journal.form image journal.live known.in_step.counts)) in
    went_moments (making side bytes old.now) old new P went before
    (subst (λ (steps : List Step). AllByRecursion (λ (step : Step). EachImage P step.during) steps) (sym (steps_are side bytes image old.now known.in_step.settled))
    (making_each P side bytes (image_side side image) other (λ k. each (take k (image_side side image))) (λ left gone. each left) (each (1 ∷ bytes))))
