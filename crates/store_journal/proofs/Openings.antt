-- Closing an open commit byte after which no payload follows.
use Rattle.std.proofs.Common.{◌≡◌, ◌≢◌, ℕ, ◌+◌, ◌-◌, List, [], ◌∷◌, ◌++◌, get_or, take, drop, Some, None, inl, inr, refl, sym, ap, subst, ◌∙◌, arith}
use Rattle.std.specs.List.{flat_map}
use Rattle.std.proofs.lemmas.Bool.{cases_eq}
use Rattle.std.proofs.lemmas.List.{drop_at, drop_more}
use Rattle.outside.specs.declared.disk.Side.{Side}
use Rattle.outside.specs.Disks.{AtAnyMoment, DiskState, EachImage, Goes, Image, Moments, image_side, on_side, reads_of, settled_disk, writing, written_through}
use Rattle.outside.proofs.MomentLaws.{call_moments, started_moments}
use Rattle.store_journal.specs.Payloads.{block, counting, generation_of, payload_at, payloads}
use Rattle.store_journal.specs.Journals.{EndsAt, IsSpelled, JournalState, IsInStep}
use Rattle.store_journal.proofs.Commits.{Holds, after_write, at_write, holds_in_step, write_settles, write_torn}
use Rattle.store_journal.proofs.CommitBytes.{closed_again, prefix_length, prefix_parts, commit_byte_is, commit_byte_there, new_parts}
use Rattle.store_journal.proofs.Kept.{SameHeader, counting_still, generation_still, payloads_of_side}
use Rattle.store_journal.proofs.Settled.{settled_each}
use Rattle.store_journal.proofs.Spelled.{closed_commit_byte, spelled_payloads}
use Rattle.store_journal.proofs.Torn.{IsTorn, IsTornImage, torn_after, torn_prefix, torn_image}

-- This side counts, with this generation, and no payload follows these.
pub record Ends (form : ℕ) (side : Side) (generation len : ℕ) (list : List (List ℕ)) (image : Image) : Type 0 where
  pub counts : counting form image ≡ Some side
  pub generation_is : generation_of (image_side side image) ≡ generation
  pub ends : EndsAt len list (image_side side image)

pub ends_payloads : (form : ℕ) (side : Side) (generation len : ℕ) (list : List (List ℕ)) (image : Image) → Ends form side generation len list image → payloads form image ≡ list
ends_payloads form side generation len list image ends =
    payloads_of_side form side image ends.counts ∙ spelled_payloads len list (image_side side image) ends.ends

-- What was found in the bytes of the side that counts.
pub found_ends : (form : ℕ) (side : Side) (generation len : ℕ) (list : List (List ℕ)) (bytes : List ℕ) (image : Image) → counting form image ≡ Some side → generation ≡ generation_of bytes → image_side side image ≡ bytes → EndsAt len list bytes → Ends form side generation len list image
found_ends form side generation len list bytes image counts number is ends = record {
  counts = counts;
  generation_is = ap generation_of is ∙ sym number;
  ends = subst (EndsAt len list) (sym is) ends;
}

-- from the commit byte on
commit_byte_and_rest : (len : ℕ) (list : List (List ℕ)) (bytes : List ℕ) (spelled : IsSpelled len list bytes) → drop (len - 1) bytes ≡ spelled.commit_byte ∷ spelled.rest
commit_byte_and_rest len list bytes spelled =
    ap (drop (len - 1)) (prefix_parts len list bytes spelled)
    ∙ drop_at (spelled.head ++ flat_map block list) (spelled.commit_byte ∷ spelled.rest) (len - 1) (prefix_length len list bytes spelled)

no_payload : (commit_byte rest-commit_byte : ℕ) (rest : List ℕ) → rest-commit_byte ≡ 1 → payload_at (rest-commit_byte ∷ rest) ≡ None → payload_at (commit_byte ∷ rest) ≡ None
no_payload commit_byte rest-commit_byte rest one none =
    elim (cases_eq commit_byte 1) [
      | inl same ↦ ap (λ (g : ℕ). payload_at (g ∷ rest)) (same ∙ sym one) ∙ none
      | inr closed ↦ closed_commit_byte commit_byte rest closed
    ]

-- a torn write of the commit byte alone keeps the header
pub commit_byte_header : (len : ℕ) (list : List (List ℕ)) (old new : List ℕ) → IsSpelled len list old → IsTorn (len - 1) 1 old new → SameHeader old new
commit_byte_header len list old new spelled torn =
    let there = commit_byte_there len list old spelled in
    record {
      there = omega (arith, there.0, there.1);
      stays = omega (arith, there.0, there.1, torn.no_shorter);
      same = torn_prefix 18 (len - 1) 1 old new torn (omega (arith, there.0)) (omega (arith, there.0, there.1));
    }

-- and adds no payload
commit_byte_ends : (len : ℕ) (list : List (List ℕ)) (old new : List ℕ) (ends : EndsAt len list old) → get_or old (len - 1) 0 ≡ 1 → IsTorn (len - 1) 1 old new → EndsAt len list new
commit_byte_ends len list old new ends one torn =
    let spelled = ends.spelled in
    let there = commit_byte_there len list old spelled in
    let commit_byte = get_or new (len - 1) 0 in
    let prefix : take (len - 1) new ≡ take (len - 1) old = torn_prefix (len - 1) (len - 1) 1 old new torn (omega arith) (omega (arith, there.1)) in
    let old_rest : drop (len - 1 + 1) old ≡ spelled.rest = ap (drop 1) (sym (drop_more old (len - 1) 0 (omega (arith, there.0, there.1))) ∙ commit_byte_and_rest len list old spelled) in
    let rest : drop (len - 1 + 1) new ≡ spelled.rest = torn_after (len - 1 + 1) (len - 1) 1 old new torn (omega arith) (omega (arith, there.0, there.1)) ∙ old_rest in
    let after : drop (len - 1) new ≡ commit_byte ∷ spelled.rest = drop_more new (len - 1) 0 (omega (arith, torn.no_shorter, there.0, there.1)) ∙ ap (λ (l : List ℕ). commit_byte ∷ l) rest in
    record {
      spelled = record {
        head = spelled.head;
        commit_byte = commit_byte;
        rest = spelled.rest;
        parts = new_parts len list old new spelled (commit_byte ∷ spelled.rest) prefix after;
        header = spelled.header;
        count_is = spelled.count_is;
        small = spelled.small;
      };
      none = no_payload commit_byte spelled.commit_byte spelled.rest (sym (commit_byte_is len list old spelled) ∙ one) ends.none;
    }

-- while the commit byte is closed the payloads stay
pub closing_ends : (form : ℕ) (side : Side) (generation len : ℕ) (list : List (List ℕ)) (old new : Image) (ends : Ends form side generation len list old) → get_or (image_side side old) (len - 1) 0 ≡ 1 → IsTornImage side (len - 1) 1 old new → Ends form side generation len list new
closing_ends form side generation len list old new ends one torn =
    let header = commit_byte_header len list (image_side side old) (image_side side new) ends.ends.spelled torn.torn in
    record {
      counts = counting_still form side old new header torn.other ∙ ends.counts;
      generation_is = generation_still (image_side side old) (image_side side new) header ∙ ends.generation_is;
      ends = commit_byte_ends len list (image_side side old) (image_side side new) ends.ends one torn.torn;
    }

-- before the commit byte is closed
pub begun_moments : (form : ℕ) (moments : Moments) → moments.now ≡ settled_disk (reads_of moments.now) → AtAnyMoment moments moments (λ image. payloads form image ≡ payloads form (reads_of moments.now))
begun_moments form moments settled =
    let P = λ (image : Image). payloads form image ≡ payloads form (reads_of moments.now) in
    started_moments moments P (subst (EachImage P) (sym settled) (settled_each P (reads_of moments.now) refl))

pub closing_moments : (form : ℕ) (side : Side) (generation len : ℕ) (list : List (List ℕ)) (image : Image) (old new : Moments) (ends : Ends form side generation len list image) → get_or (image_side side image) (len - 1) 0 ≡ 1 → old.now ≡ settled_disk image → Goes (on_side side (writing (len - 1) 1) old.now) old new → AtAnyMoment old new (λ now. payloads form now ≡ payloads form image)
closing_moments form side generation len list image old new ends one is goes =
    let P = λ (now : Image). payloads form now ≡ payloads form image in
    let held = ends_payloads form side generation len list image ends in
    let inside : EachImage P (on_side side (writing (len - 1) 1) (settled_disk image)) = λ now torn.
    ends_payloads form side generation len list now (closing_ends form side generation len list image now ends one (torn_image side (len - 1) 1 image now torn)) ∙ sym held in
    call_moments (on_side side (writing (len - 1) 1) old.now) old new P goes
    (subst (EachImage P) (sym is) (settled_each P image refl))
    (subst (λ (disk : DiskState). EachImage P (on_side side (writing (len - 1) 1) disk)) (sym is) inside)

-- after it the commit byte is closed
closed_holds : (form : ℕ) (side : Side) (generation len : ℕ) (list : List (List ℕ)) (image : Image) → Ends form side generation len list image → Holds form side generation len list (after_write side (len - 1) (0 ∷ []) image)
closed_holds form side generation len list image ends =
    let old = image_side side image in
    let after = after_write side (len - 1) (0 ∷ []) image in
    let new = image_side side after in
    let spelled = ends.ends.spelled in
    let there = commit_byte_there len list old spelled in
    let torn = write_torn side (len - 1) (0 ∷ []) image (omega (arith, there.1)) in
    let header = commit_byte_header len list old new spelled torn.torn in
    let prefix : take (len - 1) new ≡ take (len - 1) old = torn_prefix (len - 1) (len - 1) 1 old new torn.torn (omega arith) (omega (arith, there.1)) in
    let from_commit_byte : drop (len - 1) new ≡ get_or new (len - 1) 0 ∷ drop (len - 1 + 1) new = drop_more new (len - 1) 0 (omega (arith, torn.torn.no_shorter, there.0, there.1)) in
    let zero : get_or new (len - 1) 0 ≡ 0 = at_write side (len - 1) 0 image (omega (arith, there.1)) in
    record {
      counts = counting_still form side image after header torn.other ∙ ends.counts;
      generation_is = generation_still old new header ∙ ends.generation_is;
      closed = closed_again len list old new (get_or new (len - 1) 0) (drop (len - 1 + 1) new) spelled prefix from_commit_byte (λ one. omega (arith, zero, one));
    }

pub closed_in_step : (journal : JournalState) (list : List (List ℕ)) (image : Image) (old new : DiskState) → Ends journal.form journal.live journal.generation journal.len list image → old ≡ settled_disk image → new ≡ on_side journal.live (written_through (journal.len - 1) (0 ∷ [])) old → IsInStep journal new
closed_in_step journal list image old new ends is written =
    let after = after_write journal.live (journal.len - 1) (0 ∷ []) image in
    let there : new ≡ settled_disk after = written ∙ ap (on_side journal.live (written_through (journal.len - 1) (0 ∷ []))) is ∙ write_settles journal.live (journal.len - 1) (0 ∷ []) image in
    subst (IsInStep journal) (sym there) (holds_in_step journal list after (closed_holds journal.form journal.live journal.generation journal.len list image ends))

-- a commit byte that was closed stays so
pub shut_in_step : (journal : JournalState) (list : List (List ℕ)) (image : Image) (disk : DiskState) (ends : Ends journal.form journal.live journal.generation journal.len list image) → get_or (image_side journal.live image) (journal.len - 1) 0 ≢ 1 → disk ≡ settled_disk image → IsInStep journal disk
shut_in_step journal list image disk ends shut is =
    subst (IsInStep journal) (sym is) (holds_in_step journal list image (record { counts = ends.counts; generation_is = ends.generation_is; closed = record { spelled = ends.ends.spelled; closed = λ one. shut (commit_byte_is journal.len list (image_side journal.live image) ends.ends.spelled ∙ one) } }))
