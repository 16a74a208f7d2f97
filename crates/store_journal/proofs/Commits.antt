-- What a commit leaves at each moment.
use Rattle.std.proofs.Common.{◌≡◌, ℕ, ◌+◌, ◌-◌, ◌≤◌, Bool, List, [], ◌∷◌, ◌++◌, length, get_or, take, drop, Some, inl, inr, append_assoc, refl, sym, ap, subst, ◌∙◌, arith, length-append}
use Rattle.std.proofs.lemmas.Bool.{cases_eq}
use Rattle.std.proofs.lemmas.List.{drop_at, get_or_at, length-take-le}
use Rattle.base.specs.Bytes.{text_bytes}
use Rattle.outside.specs.declared.disk.Side.{Side}
use Rattle.outside.specs.declared.disk.Side.TheVariants.{A, B}
use Rattle.outside.specs.Disks.{AtAnyMoment, DiskState, EachImage, Image, IsEither, Moments, NeverLoses, image_side, on_side, overwritten, reads_of, settled_disk, writing, written_through}
use Rattle.store_journal.specs.Payloads.{counting, generation_of, payloads}
use Rattle.store_journal.specs.Journals.{HasClosedCommitByteAt, JournalState, IsInStep, other_side}
use Rattle.store_journal.specs.Steps.{Went, committing, last_moment}
use Rattle.store_journal.proofs.CommitBytes.{Small, after_closed, commit_byte_open, commit_byte_shut, commit_byte_there}
use Rattle.store_journal.proofs.Kept.{SameHeader, counting_still, generation_still, payloads_of_side}
use Rattle.store_journal.proofs.Settled.{settled_each, settled_image}
use Rattle.store_journal.proofs.Spelled.{closed_ends, spelled_payloads}
use Rattle.store_journal.proofs.Torn.{IsTorn, IsTornImage, overwritten_torn, torn_prefix, torn_image}
use Rattle.store_journal.proofs.Went.{HandsOn, went_loses, went_moments}

-- this side counts, with this generation, and has these payloads up to this closed commit byte
pub record Holds (form : ℕ) (side : Side) (generation len : ℕ) (list : List (List ℕ)) (image : Image) : Type 0 where
  pub counts : counting form image ≡ Some side
  pub generation_is : generation_of (image_side side image) ≡ generation
  pub closed : HasClosedCommitByteAt len list (image_side side image)

pub holds_payloads : (form : ℕ) (side : Side) (generation len : ℕ) (list : List (List ℕ)) (image : Image) → Holds form side generation len list image → payloads form image ≡ list
holds_payloads form side generation len list image holds =
    payloads_of_side form side image holds.counts ∙ spelled_payloads len list (image_side side image) (closed_ends len list (image_side side image) holds.closed)

pub in_step_holds : (journal : JournalState) (disk : DiskState) → IsInStep journal disk → Holds journal.form journal.live journal.generation journal.len (payloads journal.form (reads_of disk)) (reads_of disk)
in_step_holds journal disk in_step = record { counts = in_step.counts; generation_is = in_step.generation; closed = in_step.closed }

pub holds_in_step : (journal : JournalState) (list : List (List ℕ)) (image : Image) → Holds journal.form journal.live journal.generation journal.len list image → IsInStep journal (settled_disk image)
holds_in_step journal list image holds =
    let is : payloads journal.form image ≡ list = holds_payloads journal.form journal.live journal.generation journal.len list image holds in
    record {
      settled = refl;
      counts = holds.counts;
      generation = holds.generation_is;
      closed = subst (λ (l : List (List ℕ)). HasClosedCommitByteAt journal.len l (image_side journal.live image)) (sym is) holds.closed;
    }

-- a torn write from the closed commit byte on, or after it, keeps the header
torn_header : (len at count : ℕ) (list : List (List ℕ)) (old new : List ℕ) → HasClosedCommitByteAt len list old → IsTorn at count old new → len - 1 ≤ at → SameHeader old new
torn_header len at count list old new closed torn late =
    let there = commit_byte_there len list old closed.spelled in
    record {
      there = omega (arith, there.0, there.1);
      stays = omega (arith, there.0, there.1, torn.no_shorter);
      same = torn_prefix 18 at count old new torn (omega (arith, there.0)) (omega (arith, there.0, there.1));
    }

-- what a torn write after the header keeps, where its commit byte is closed
torn_holds : (form : ℕ) (side : Side) (generation len at count after : ℕ) (list new_list : List (List ℕ)) (old new : Image) → Holds form side generation len list old → IsTornImage side at count old new → len - 1 ≤ at → HasClosedCommitByteAt after new_list (image_side side new) → Holds form side generation after new_list new
torn_holds form side generation len at count after list new_list old new holds torn late closed =
    let header = torn_header len at count list (image_side side old) (image_side side new) holds.closed torn.torn late in
    record {
      counts = counting_still form side old new header torn.other ∙ holds.counts;
      generation_is = generation_still (image_side side old) (image_side side new) header ∙ holds.generation_is;
      closed = closed;
    }

-- while bytes after the closed commit byte are written, and after, the payloads are those from before
pub after_holds : (form : ℕ) (side : Side) (generation len count : ℕ) (list : List (List ℕ)) (old new : Image) → Holds form side generation len list old → IsTornImage side len count old new → Holds form side generation len list new
after_holds form side generation len count list old new holds torn =
    torn_holds form side generation len len count len list list old new holds torn (omega arith) (after_closed len count list (image_side side old) (image_side side new) holds.closed torn.torn)

-- a disk image with one side changed
abbrev pub put : Side → List ℕ → Image → Image
put A bytes image = record { a = bytes; b = image.b }
put B bytes image = record { a = image.a; b = bytes }

pub bytes_put : (side : Side) (bytes : List ℕ) (image : Image) → image_side side (put side bytes image) ≡ bytes
bytes_put A bytes image = refl
bytes_put B bytes image = refl

other_put : (side : Side) (bytes : List ℕ) (image : Image) → image_side (other_side side) (put side bytes image) ≡ image_side (other_side side) image
other_put A bytes image = refl
other_put B bytes image = refl

-- an image after a write
abbrev pub after_write : Side → (at : ℕ) → List ℕ → Image → Image
after_write side at bytes image = put side (overwritten at bytes (image_side side image)) image

pub write_settles : (side : Side) (at : ℕ) (bytes : List ℕ) (image : Image) → on_side side (written_through at bytes) (settled_disk image) ≡ settled_disk (after_write side at bytes image)
write_settles A at bytes image = refl
write_settles B at bytes image = refl

pub write_torn : (side : Side) (at : ℕ) (bytes : List ℕ) (image : Image) → at ≤ length (image_side side image) → IsTornImage side at (length bytes) image (after_write side at bytes image)
write_torn side at bytes image within =
    let new = overwritten at bytes (image_side side image) in
    record {
      torn = subst (IsTorn at (length bytes) (image_side side image)) (sym (bytes_put side new image)) (overwritten_torn at bytes (image_side side image) within);
      other = other_put side new image;
    }

-- what is written stands where it was written
past_write : (side : Side) (at : ℕ) (bytes : List ℕ) (image : Image) → at ≤ length (image_side side image) → drop at (image_side side (after_write side at bytes image)) ≡ bytes ++ drop (at + length bytes) (image_side side image)
past_write side at bytes image within =
    let old = image_side side image in
    ap (drop at) (bytes_put side (overwritten at bytes old) image) ∙ drop_at (take at old) (bytes ++ drop (at + length bytes) old) at (length-take-le at old within)

pub at_write : (side : Side) (at byte : ℕ) (image : Image) → at ≤ length (image_side side image) → get_or (image_side side (after_write side at (byte ∷ []) image)) at 0 ≡ byte
at_write side at byte image within =
    let old = image_side side image in
    ap (λ (l : List ℕ). get_or l at 0) (bytes_put side (overwritten at (byte ∷ []) old) image) ∙ get_or_at (take at old) byte (drop (at + 1) old) 0 at (length-take-le at old within)

-- what is written after the closed commit byte: a payload, and a closed commit byte
abbrev pub after_bytes : List ℕ → List ℕ
after_bytes payload = text_bytes payload ++ 0 ∷ []

-- the payload comes after the closed commit byte
pub record HoldsMore (form : ℕ) (side : Side) (generation len : ℕ) (list : List (List ℕ)) (payload : List ℕ) (image : Image) : Type 0 where
  pub holds : Holds form side generation len list image
  pub small : Small payload
  pub rest : List ℕ
  pub after : drop len (image_side side image) ≡ text_bytes payload ++ 0 ∷ rest

-- after the first write
pub written_after : (form : ℕ) (side : Side) (generation len : ℕ) (list : List (List ℕ)) (payload : List ℕ) (image : Image) → Holds form side generation len list image → Small payload → HoldsMore form side generation len list payload (after_write side len (after_bytes payload) image)
written_after form side generation len list payload image holds small =
    let there = commit_byte_there len list (image_side side image) holds.closed.spelled in
    let rest = drop (len + length (after_bytes payload)) (image_side side image) in
    record {
      holds = after_holds form side generation len (length (after_bytes payload)) list image (after_write side len (after_bytes payload) image) holds (write_torn side len (after_bytes payload) image there.1);
      small = small;
      rest = rest;
      after = past_write side len (after_bytes payload) image there.1 ∙ append_assoc (text_bytes payload) (0 ∷ []) rest;
    }

-- once the commit byte is open, the payload is one of the others
pub opened_holds : (form : ℕ) (side : Side) (generation len : ℕ) (list : List (List ℕ)) (payload : List ℕ) (old new : Image) → HoldsMore form side generation len list payload old → IsTornImage side (len - 1) 1 old new → get_or (image_side side new) (len - 1) 0 ≡ 1 → Holds form side generation (len + length (after_bytes payload)) (list ++ payload ∷ []) new
opened_holds form side generation len list payload old new more torn one =
    torn_holds form side generation len (len - 1) 1 (len + length (after_bytes payload)) list (list ++ payload ∷ []) old new more.holds torn (omega arith)
    (commit_byte_open len list payload (image_side side old) (image_side side new) more.rest more.holds.closed more.small more.after torn.torn one)

-- while the commit byte alone is written, the side counts
pub commit_byte_counts : (form : ℕ) (side : Side) (generation len : ℕ) (list : List (List ℕ)) (payload : List ℕ) (old new : Image) → HoldsMore form side generation len list payload old → IsTornImage side (len - 1) 1 old new → counting form new ≡ Some side
commit_byte_counts form side generation len list payload old new more torn =
    let header = torn_header len (len - 1) 1 list (image_side side old) (image_side side new) more.holds.closed torn.torn (omega arith) in
    counting_still form side old new header torn.other ∙ more.holds.counts

-- while the commit byte alone is written, the payloads are those from before, or with the new one
pub commit_byte_payloads : (form : ℕ) (side : Side) (generation len : ℕ) (list : List (List ℕ)) (payload : List ℕ) (old new : Image) → HoldsMore form side generation len list payload old → IsTornImage side (len - 1) 1 old new → IsEither (payloads form new) list (list ++ payload ∷ [])
commit_byte_payloads form side generation len list payload old new more torn =
    elim (cases_eq (get_or (image_side side new) (len - 1) 0) 1) [
      | inl one ↦ inr (holds_payloads form side generation (len + length (after_bytes payload)) (list ++ payload ∷ []) new (opened_holds form side generation len list payload old new more torn one))
      | inr shut ↦ inl (holds_payloads form side generation len list new (torn_holds form side generation len (len - 1) 1 len list list old new more.holds torn (omega arith) (commit_byte_shut len list (image_side side old) (image_side side new) more.holds.closed torn.torn shut)))
    ]

-- after both writes
abbrev pub committed_image : Side → (len : ℕ) → List ℕ → Image → Image
committed_image side len payload image = after_write side (len - 1) (1 ∷ []) (after_write side len (after_bytes payload) image)

pub committed_holds : (form : ℕ) (side : Side) (generation len : ℕ) (list : List (List ℕ)) (payload : List ℕ) (image : Image) → Holds form side generation len list image → Small payload → Holds form side generation (len + length (after_bytes payload)) (list ++ payload ∷ []) (committed_image side len payload image)
committed_holds form side generation len list payload image holds small =
    let middle = after_write side len (after_bytes payload) image in
    let more = written_after form side generation len list payload image holds small in
    let there = commit_byte_there len list (image_side side middle) more.holds.closed.spelled in
    opened_holds form side generation len list payload middle (committed_image side len payload image) more (write_torn side (len - 1) (1 ∷ []) middle (omega (arith, there.1))) (at_write side (len - 1) 1 middle (omega (arith, there.1)))

pub committed_is : (side : Side) (len : ℕ) (payload : List ℕ) (image : Image) → last_moment (settled_disk image) (committing side len (after_bytes payload) (settled_disk image)) ≡ settled_disk (committed_image side len payload image)
unfolding committing last_moment
committed_is side len payload image =
    ap (on_side side (written_through (len - 1) (1 ∷ []))) (write_settles side len (after_bytes payload) image)
    ∙ write_settles side (len - 1) (1 ∷ []) (after_write side len (after_bytes payload) image)

longer : (list : List (List ℕ)) (payload : List ℕ) → list ≡ list ++ payload ∷ [] → ⊥
longer list payload same = omega (arith, ap length same, length-append list (payload ∷ []))

-- at any moment of a commit the payloads are those from before, or with the new one
pub commit_moments : (form : ℕ) (side : Side) (generation len : ℕ) (list : List (List ℕ)) (payload : List ℕ) (image : Image) (old new : Moments) → Holds form side generation len list image → Small payload → old.now ≡ settled_disk image → Went (committing side len (after_bytes payload) (settled_disk image)) old new → AtAnyMoment old new (λ now. IsEither (payloads form now) list (list ++ payload ∷ []))
unfolding committing
commit_moments form side generation len list payload image old new holds small is went =
    let P = λ (now : Image). IsEither (payloads form now) list (list ++ payload ∷ []) in
    let middle = after_write side len (after_bytes payload) image in
    let before : EachImage P old.now = subst (EachImage P) (sym is) (settled_each P image (inl (holds_payloads form side generation len list image holds))) in
    let first : EachImage P (on_side side (writing len (length (after_bytes payload))) (settled_disk image)) = λ now torn.
    inl (holds_payloads form side generation len list now (after_holds form side generation len (length (after_bytes payload)) list image now holds (torn_image side len (length (after_bytes payload)) image now torn))) in
    let more = written_after form side generation len list payload image holds small in
    let then : EachImage P (on_side side (writing (len - 1) 1) (settled_disk middle)) = λ now torn.
    commit_byte_payloads form side generation len list payload middle now more (torn_image side (len - 1) 1 middle now torn) in
    let second = subst (λ (disk : DiskState). EachImage P (on_side side (writing (len - 1) 1) disk)) (sym (write_settles side len (after_bytes payload) image)) then in
    went_moments (committing side len (after_bytes payload) (settled_disk image)) old new P went before (first, (second, tt))

-- before a commit has ended the new payload isn't in each image
pub commit_loses : (form : ℕ) (side : Side) (generation len : ℕ) (list : List (List ℕ)) (payload : List ℕ) (image : Image) (old new : Moments) → Holds form side generation len list image → Small payload → old.now ≡ settled_disk image → Went (committing side len (after_bytes payload) (settled_disk image)) old new → NeverLoses old new (λ now. payloads form now ≡ list ++ payload ∷ [])
unfolding committing
commit_loses form side generation len list payload image old new holds small is went =
    let P = λ (now : Image). payloads form now ≡ list ++ payload ∷ [] in
    let middle = after_write side len (after_bytes payload) image in
    let more = written_after form side generation len list payload image holds small in
    let none : (other : Image) → Holds form side generation len list other → EachImage P (settled_disk other) → ⊥ = λ other has each.
    longer list payload (sym (holds_payloads form side generation len list other has) ∙ each other (settled_image other)) in
    let first : EachImage P (settled_disk image) → EachImage P (on_side side (writing len (length (after_bytes payload))) (settled_disk image)) = λ each. absurd (none image holds each) in
    let then : EachImage P (settled_disk middle) → EachImage P (on_side side (writing (len - 1) 1) (settled_disk middle)) = λ each. absurd (none middle more.holds each) in
    let second = subst (λ (disk : DiskState). EachImage P disk → EachImage P (on_side side (writing (len - 1) 1) disk)) (sym (write_settles side len (after_bytes payload) image)) then in
    let hands : HandsOn P (settled_disk image) (committing side len (after_bytes payload) (settled_disk image)) = (first, (second, tt)) in
    went_loses (committing side len (after_bytes payload) (settled_disk image)) old new P went (subst (λ (disk : DiskState). HandsOn P disk (committing side len (after_bytes payload) (settled_disk image))) (sym is) hands)

-- the same for a journal in step with its disk
pub commit_any : (journal : JournalState) (payload bytes : List ℕ) (old new : Moments) → IsInStep journal old.now → Small payload → bytes ≡ after_bytes payload → Went (committing journal.live journal.len bytes old.now) old new → AtAnyMoment old new (λ image. IsEither (payloads journal.form image) (payloads journal.form (reads_of old.now)) (payloads journal.form (reads_of old.now) ++ payload ∷ []))
commit_any journal payload bytes old new in_step small is went =
    let image = reads_of old.now in
    let there = subst (λ (l : List ℕ). Went (committing journal.live journal.len l old.now) old new) is went in
    let here = subst (λ (disk : DiskState). Went (committing journal.live journal.len (after_bytes payload) disk) old new) in_step.settled there in
    commit_moments journal.form journal.live journal.generation journal.len (payloads journal.form image) payload image old new (in_step_holds journal old.now in_step) small in_step.settled here

pub commit_never_loses : (journal : JournalState) (payload bytes : List ℕ) (old new : Moments) → IsInStep journal old.now → Small payload → bytes ≡ after_bytes payload → Went (committing journal.live journal.len bytes old.now) old new → NeverLoses old new (λ image. payloads journal.form image ≡ payloads journal.form (reads_of old.now) ++ payload ∷ [])
commit_never_loses journal payload bytes old new in_step small is went =
    let image = reads_of old.now in
    let there = subst (λ (l : List ℕ). Went (committing journal.live journal.len l old.now) old new) is went in
    let here = subst (λ (disk : DiskState). Went (committing journal.live journal.len (after_bytes payload) disk) old new) in_step.settled there in
    commit_loses journal.form journal.live journal.generation journal.len (payloads journal.form image) payload image old new (in_step_holds journal old.now in_step) small in_step.settled here

ended : (journal : JournalState) (payload bytes : List ℕ) (old new : DiskState) → IsInStep journal old → bytes ≡ after_bytes payload → new ≡ last_moment old (committing journal.live journal.len bytes old) → new ≡ settled_disk (committed_image journal.live journal.len payload (reads_of old))
ended journal payload bytes old new in_step is last =
    let to = λ (l : List ℕ) (disk : DiskState). last_moment disk (committing journal.live journal.len l disk) in
    last
    ∙ ap (λ (l : List ℕ). to l old) is
    ∙ ap (to (after_bytes payload)) in_step.settled
    ∙ committed_is journal.live journal.len payload (reads_of old)

-- after a commit the journal is in step, with the new payload after the others
pub commit_adds : (journal : JournalState) (payload bytes : List ℕ) (old new : DiskState) → IsInStep journal old → Small payload → bytes ≡ after_bytes payload → new ≡ last_moment old (committing journal.live journal.len bytes old) → payloads journal.form (reads_of new) ≡ payloads journal.form (reads_of old) ++ payload ∷ []
commit_adds journal payload bytes old new in_step small is last =
    let list = payloads journal.form (reads_of old) in
    let holds = committed_holds journal.form journal.live journal.generation journal.len list payload (reads_of old) (in_step_holds journal old in_step) small in
    ap (λ (disk : DiskState). payloads journal.form (reads_of disk)) (ended journal payload bytes old new in_step is last)
    ∙ holds_payloads journal.form journal.live journal.generation (journal.len + length (after_bytes payload)) (list ++ payload ∷ []) (committed_image journal.live journal.len payload (reads_of old)) holds

pub commit_in_step : (journal : JournalState) (broken : Bool) (payload bytes : List ℕ) (old new : DiskState) → IsInStep journal old → Small payload → bytes ≡ after_bytes payload → new ≡ last_moment old (committing journal.live journal.len bytes old) → IsInStep (record { form = journal.form; live = journal.live; generation = journal.generation; len = journal.len + length bytes; broken = broken }) new
commit_in_step journal broken payload bytes old new in_step small is last =
    let list = payloads journal.form (reads_of old) in
    let image = committed_image journal.live journal.len payload (reads_of old) in
    let after : JournalState = record { form = journal.form; live = journal.live; generation = journal.generation; len = journal.len + length bytes; broken = broken } in
    let size : journal.len + length (after_bytes payload) ≡ journal.len + length bytes = ap (λ (l : List ℕ). journal.len + length l) (sym is) in
    let holds = committed_holds journal.form journal.live journal.generation journal.len list payload (reads_of old) (in_step_holds journal old in_step) small in
    let there = subst (λ (n : ℕ). Holds journal.form journal.live journal.generation n (list ++ payload ∷ []) image) size holds in
    subst (IsInStep after) (sym (ended journal payload bytes old new in_step is last)) (holds_in_step after (list ++ payload ∷ []) image there)
