-- Opening that writes nothing.
use Rattle.std.proofs.Common.{◌≡◌, ◌≢◌, ℕ, Bool, true, false, ◌+◌, ◌-◌, List, [], get_or, length, None, refl, sym, ap, subst, ◌∙◌}
use Rattle.std.specs.Prelude.{Result, Ok, Err, OnOk}
use Rattle.std.specs.List.{flat_map}
use Rattle.std.proofs.lemmas.List.{append-nil}
use Rattle.outside.specs.declared.disk.Side.{Side}
use Rattle.outside.specs.Disks.{AtAnyMoment, DiskState, EachImage, Goes, Image, Moments, all_of, image_side, reads_of, settled_disk, Rests}
use Rattle.outside.proofs.MomentLaws.{call_moments, goes_then, joined_moments}
use Rattle.store_journal.specs.Payloads.{block, counting, payloads}
use Rattle.store_journal.specs.Journals.{IsHealthy}
use Rattle.store_journal.proofs.CommitBytes.{commit_byte_is}
use Rattle.store_journal.proofs.Openings.{Ends, ends_payloads}
use Rattle.store_journal.proofs.Settled.{settled_each}

-- a run without a call
pub goes_nowhere : (moments : Moments) → Goes moments.now moments moments
goes_nowhere moments = record { inside = []; added = sym (append-nil (all_of moments)); shrinks = tt; within = λ image is. is }

pub rests_at_once : {T E : Type 0} (result : Result T E) (moments : Moments) → moments.now ≡ settled_disk (reads_of moments.now) → Rests result moments moments
rests_at_once (Ok value) moments settled = record { goes = goes_nowhere moments; same = settled }
rests_at_once (Err fault) moments settled = record { goes = goes_nowhere moments; same = tt }

-- a call that added no image, and a fault
pub rests_in_fault : {T E : Type 0} (fault : E) (old new : Moments) → Goes old.now old new → Rests {T = T} (Err fault) old new
rests_in_fault fault old new goes = record { goes = goes; same = tt }

-- after a call that added no image and changed nothing
pub rests_then : {T E : Type 0} (result : Result T E) (old middle new : Moments) → Goes old.now old middle → reads_of middle.now ≡ reads_of old.now → Rests result middle new → Rests result old new
rests_then result old middle new goes same rests = record {
  goes = goes_then old.now old middle new goes rests.goes;
  same = subst (λ (image : Image). OnOk result (new.now ≡ settled_disk image)) same rests.same;
}

pub healthy_then : (form : ℕ) (old middle : DiskState) → reads_of middle ≡ reads_of old → IsHealthy form (reads_of old) → IsHealthy form (reads_of middle)
healthy_then form old middle same healthy = subst (IsHealthy form) (sym same) healthy

-- both, for what is opened after such a call
pub rests_healthy : {T E : Type 0} (form : ℕ) (result : Result T E) (old middle new : Moments) → Goes old.now old middle → reads_of middle.now ≡ reads_of old.now → (IsHealthy form (reads_of middle.now) → Rests result middle new) → IsHealthy form (reads_of old.now) → Rests result old new
rests_healthy form result old middle new goes same rests healthy = rests_then result old middle new goes same (rests (healthy_then form old.now middle.now same healthy))

-- where the journal is healthy its last commit byte isn't open
pub healthy_shut : (form : ℕ) (side : Side) (generation len : ℕ) (list : List (List ℕ)) (image : Image) → IsHealthy form image → Ends form side generation len list image → get_or (image_side side image) (len - 1) 0 ≢ 1
healthy_shut form side generation len list image healthy ends one =
    let side_is : healthy.live ≡ side = cc (healthy.counts, ends.counts) in
    let list_is : payloads form image ≡ list = ends_payloads form side generation len list image ends in
    let count_is : healthy.count ≡ len = healthy.closed.spelled.count_is ∙ ap (λ (l : List (List ℕ)). 19 + length (flat_map block l)) list_is ∙ sym ends.ends.spelled.count_is in
    let commit_byte = commit_byte_is healthy.count (payloads form image) (image_side healthy.live image) healthy.closed.spelled in
    healthy.closed.closed (sym commit_byte ∙ ap (λ (s : Side). get_or (image_side s image) (healthy.count - 1) 0) side_is ∙ ap (λ (n : ℕ). get_or (image_side side image) (n - 1) 0) count_is ∙ one)

-- and a side counts
pub healthy_counts : (form : ℕ) (image : Image) → IsHealthy form image → counting form image ≢ None
healthy_counts form image healthy none = absurd (cc (healthy.counts, none))

-- what each image has inside of a call that adds none
pub read_only : (form : ℕ) (old new : Moments) → Goes old.now old new → old.now ≡ settled_disk (reads_of old.now) → AtAnyMoment old new (λ image. payloads form image ≡ payloads form (reads_of old.now))
read_only form old new goes settled =
    let P = λ (image : Image). payloads form image ≡ payloads form (reads_of old.now) in
    let each : EachImage P old.now = subst (EachImage P) (sym settled) (settled_each P (reads_of old.now) refl) in
    call_moments old.now old new P goes each each

-- and after it, where it changed nothing
pub read_then : (form : ℕ) (old middle new : Moments) → Goes old.now old middle → middle.now ≡ old.now → old.now ≡ settled_disk (reads_of old.now) → AtAnyMoment middle new (λ image. payloads form image ≡ payloads form (reads_of middle.now)) → AtAnyMoment old new (λ image. payloads form image ≡ payloads form (reads_of old.now))
read_then form old middle new goes same settled moments =
    let P = λ (image : Image). payloads form image ≡ payloads form (reads_of old.now) in
    let later = subst (λ (d : DiskState). AtAnyMoment middle new (λ image. payloads form image ≡ payloads form (reads_of d))) same moments in
    joined_moments old middle new P (read_only form old middle goes settled) later

-- a test has one answer
pub unopened : (test : Bool) → test ≡ false → test ≡ true → ⊥
unopened true e holds = cc
unopened false e holds = cc
