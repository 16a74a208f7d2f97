-- How a side begins.
use Rattle.std.proofs.Common.{◌≡◌, ℕ, suc, ◌+◌, ◌<◌, ◌≤◌, ◌^◌, List, [], ◌∷◌, ◌++◌, length, drop, get_or, Option, Some, refl, sym, ap, ◌∙◌, append_assoc, add-one, drop-cons, arith, inl, inr}
use Rattle.std.specs.Prelude.{All, slice_get}
use Rattle.std.specs.List.{flat_map}
use Rattle.std.specs.Option.{unwrap_or}
use Rattle.std.proofs.Math.ListN.{drop_of_length-le}
use Rattle.std.proofs.lemmas.Bool.{cases_lt}
use Rattle.std.proofs.lemmas.List.Elements.{All-from_get_or}
use Rattle.std.proofs.lemmas.Option.{slice_get_within, unwrap_or-slice_get}
use Rattle.base.specs.Bytes.{text_bytes}
use Rattle.store_journal.specs.Payloads.{block, header, payloads_in, side_bytes}
use Rattle.store_journal.specs.Journals.{HasClosedCommitByteAt}
use Rattle.store_journal.proofs.Spelled.{blocks-cons, closed_ends, spelled_payloads}

-- the bytes of a side end with a closed commit byte
pub side_closed : (form generation : ℕ) (payloads : List (List ℕ)) → All (λ payload. length payload < 2 ^ 32) payloads → HasClosedCommitByteAt (19 + length (flat_map block payloads)) payloads (side_bytes form generation payloads)
unfolding side_bytes header
side_closed form generation payloads small = record {
  spelled = record {
    head = header form generation;
    commit_byte = 0;
    rest = [];
    parts = refl;
    header = refl;
    count_is = refl;
    small = small;
  };
  closed = omega arith;
}

-- and have these payloads
pub side_payloads : (form generation : ℕ) (payloads : List (List ℕ)) → All (λ payload. length payload < 2 ^ 32) payloads → payloads_in (side_bytes form generation payloads) ≡ payloads
side_payloads form generation payloads small =
    let count = 19 + length (flat_map block payloads) in
    spelled_payloads count payloads (side_bytes form generation payloads) (closed_ends count payloads (side_bytes form generation payloads) (side_closed form generation payloads small))

-- The first `i` payloads of a side are written.
pub record IsWrittenTo (form generation : ℕ) (payloads : List (List ℕ)) (i : ℕ) (out : List ℕ) : Type 0 where
  pub parts : 1 ∷ (out ++ (flat_map block (drop i payloads) ++ 0 ∷ [])) ≡ side_bytes form generation payloads
  pub small : (k : ℕ) → k < i → length (get_or payloads k []) < 2 ^ 32

-- at first, no payload is written
pub write_begins : (form generation : ℕ) (payloads : List (List ℕ)) (out : List ℕ) → 1 ∷ out ≡ header form generation → IsWrittenTo form generation payloads 0 out
unfolding side_bytes
write_begins form generation payloads out begun = record {
  parts = ap (λ (bs : List ℕ). bs ++ (flat_map block payloads ++ 0 ∷ [])) begun;
  small = λ k below. absurd (omega arith);
}

-- one payload more
pub write_goes_on : (form generation : ℕ) (payloads : List (List ℕ)) (i : ℕ) (out payload : List ℕ) → IsWrittenTo form generation payloads i out → slice_get payloads i ≡ Some payload → length payload < 2 ^ 32 → IsWrittenTo form generation payloads (i + 1) ((out ++ 1 ∷ []) ++ text_bytes payload)
unfolding block
write_goes_on form generation payloads i out payload so_far here small =
    let within : i < length payloads = slice_get_within payloads i payload here in
    let is : get_or payloads i [] ≡ payload = sym (unwrap_or-slice_get payloads i []) ∙ ap (λ (o : Option (List ℕ)). unwrap_or o []) here in
    let next : drop i payloads ≡ payload ∷ drop (i + 1) payloads = rw add-one (drop-cons payloads i [] within ∙ ap (λ (p : List ℕ). p ∷ drop (suc i) payloads) is) in
    let rest : List ℕ = flat_map block (drop (i + 1) payloads) ++ 0 ∷ [] in
    let blocks : flat_map block (drop i payloads) ++ 0 ∷ [] ≡ block payload ++ rest = ap (λ (ps : List (List ℕ)). flat_map block ps ++ 0 ∷ []) next ∙ blocks-cons payload (drop (i + 1) payloads) (0 ∷ []) in
    record {
      parts = ap (λ (bs : List ℕ). 1 ∷ bs) (append_assoc (out ++ 1 ∷ []) (text_bytes payload) rest ∙ append_assoc out (1 ∷ []) (text_bytes payload ++ rest) ∙ ap (λ (bs : List ℕ). out ++ bs) (sym blocks)) ∙ so_far.parts;
      small = λ k below. elim (cases_lt k i) [
        | inl lt ↦ so_far.small k lt
        | inr le ↦ let last : k ≡ i = omega arith in rw (last, is) small
      ];
    }

-- all payloads
pub write_ends : (form generation : ℕ) (payloads : List (List ℕ)) (i : ℕ) (out : List ℕ) → IsWrittenTo form generation payloads i out → length payloads ≤ i → (1 ∷ (out ++ 0 ∷ []) ≡ side_bytes form generation payloads) × All (λ payload. length payload < 2 ^ 32) payloads
write_ends form generation payloads i out so_far all =
    let none : drop i payloads ≡ [] = drop_of_length-le payloads all in (
      ap (λ (ps : List (List ℕ)). 1 ∷ (out ++ (flat_map block ps ++ 0 ∷ []))) (sym none) ∙ so_far.parts,
      All-from_get_or (λ (payload : List ℕ). length payload < 2 ^ 32) payloads [] (λ k below. so_far.small k (omega arith)),
    )
