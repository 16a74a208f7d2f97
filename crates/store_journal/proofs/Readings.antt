-- What stays where a disk is read before anything is written.
use Rattle.std.proofs.Common.{◌≡◌, ℕ, List, refl, sym, ap, subst, ◌∙◌}
use Rattle.std.specs.Prelude.{Result, Ok, Err, IfOk}
use Rattle.outside.specs.Disks.{AtAnyMoment, DiskState, EachImage, Goes, IsImage, Moments, reads_of, settled_disk}
use Rattle.outside.proofs.MomentLaws.{at_present, call_moments, joined_moments, weaker_moments}
use Rattle.store_journal.specs.Payloads.{payloads}
use Rattle.store_journal.specs.Journals.{HasPayloadsOf}
use Rattle.store_journal.proofs.Settled.{settled_image}

-- an image of a disk has its payloads
has_own : (form : ℕ) (disk : DiskState) → EachImage (HasPayloadsOf form disk) disk
has_own form disk image is = record { before = image; was = is; same = refl }

-- while a disk is read, an image has the payloads of one at entry
pub read_has : (form : ℕ) (old new : Moments) → Goes old.now old new → AtAnyMoment old new (HasPayloadsOf form old.now)
read_has form old new goes = call_moments old.now old new (HasPayloadsOf form old.now) goes (has_own form old.now) (has_own form old.now)

-- so it is where each image then has the payloads that reads gave
pub then_has : (form : ℕ) (old middle new : Moments) → Goes old.now old middle → middle.now ≡ settled_disk (reads_of old.now) → AtAnyMoment middle new (λ image. payloads form image ≡ payloads form (reads_of middle.now)) → AtAnyMoment old new (HasPayloadsOf form old.now)
then_has form old middle new goes is moments =
    let entry : IsImage old.now (reads_of old.now) = goes.within (reads_of old.now) (subst (λ (disk : DiskState). IsImage disk (reads_of old.now)) (sym is) (settled_image (reads_of old.now))) in
    let reads : payloads form (reads_of middle.now) ≡ payloads form (reads_of old.now) = ap (λ (disk : DiskState). payloads form (reads_of disk)) is in
    joined_moments old middle new (HasPayloadsOf form old.now) (read_has form old middle goes)
    (weaker_moments middle new (λ image. payloads form image ≡ payloads form (reads_of middle.now)) (HasPayloadsOf form old.now)
    (λ image same. record { before = reads_of old.now; was = entry; same = same ∙ reads }) moments)

-- what reads gave at entry is what they give once both sides are synced
pub then_all : (form : ℕ) (old middle new : Moments) → middle.now ≡ settled_disk (reads_of old.now) → AtAnyMoment middle new (λ image. payloads form image ≡ payloads form (reads_of middle.now)) → AtAnyMoment middle new (λ image. payloads form image ≡ payloads form (reads_of old.now))
then_all form old middle new is moments =
    let reads : payloads form (reads_of middle.now) ≡ payloads form (reads_of old.now) = ap (λ (disk : DiskState). payloads form (reads_of disk)) is in
    weaker_moments middle new (λ image. payloads form image ≡ payloads form (reads_of middle.now)) (λ image. payloads form image ≡ payloads form (reads_of old.now)) (λ image same. same ∙ reads) moments

-- what reads of a settled disk give is one of its images
pub present_has : (form : ℕ) (old new : Moments) (list : List (List ℕ)) → AtAnyMoment old new (λ image. payloads form image ≡ list) → new.now ≡ settled_disk (reads_of new.now) → payloads form (reads_of new.now) ≡ list
present_has form old new list moments settled =
    at_present old new (λ image. payloads form image ≡ list) moments (reads_of new.now)
    (subst (λ (disk : DiskState). IsImage disk (reads_of new.now)) (sym settled) (settled_image (reads_of new.now)))

-- of an answer that has P and Q
pub ok_both : {T E : Type 0} (r : Result T E) (P Q R : T → Type 0) → ((x : T) → P x → Q x → R x) → IfOk r P → IfOk r Q → IfOk r R
ok_both (Ok x) P Q R to one two = to x one two
ok_both (Err fault) P Q R to one two = tt
