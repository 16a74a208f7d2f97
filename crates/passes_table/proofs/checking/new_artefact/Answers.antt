use Rattle.std.proofs.Common.{◌≡◌, ℕ, List, [], ◌∷◌, ◌++◌, length, map, ap, sym, subst, ◌∙◌, arith, append_assoc, length-append, inl, inr}
use Rattle.std.specs.Prelude.{Contains}
use Rattle.std.proofs.lemmas.List.{length-map}
use Rattle.std.proofs.lemmas.List.Elements.{Contains-append_cases, Contains-append_left, Contains-append_right}
use Rattle.std.proofs.lemmas.Option.{get_or_from_slice_get, slice_get_within}
use Rattle.base_bytes.specs.Ranges.{ranged}
use Rattle.base_collections.specs.Numbers.{IsIndexOf}
use Rattle.store_table.specs.Located.{located_text, located_texts, nth_payload}
use Rattle.store_table.proofs.Finding.{is_new, new_is}
use Rattle.passes_table.proofs.checking.new_artefact.Goals as goal
use Rattle.passes_table.proofs.checking.new_artefact.Goals.{After-bytes_in-text}

abbrev known_texts : (c : After-bytes_in-text) → List (List ℕ)
known_texts c = located_texts c.args.held.now.segments c.args.texts.now

abbrev fresh_texts : (c : After-bytes_in-text) → List (List ℕ)
fresh_texts c = located_texts c.args.held.now.segments c.args.fresh.now

abbrev new_text : (c : After-bytes_in-text) → List ℕ
new_text c = ranged (nth_payload c.args.held.now.segments c.args.at) c.args.range

same_text : (c : After-bytes_in-text) → c.bytes_in-text.result.now ≡ (new_text c)
same_text c =
    let segments : List (List ℕ) = c.args.held.now.segments in
    let bytes : c.get.result.now ≡ nth_payload segments c.args.at = sym (get_or_from_slice_get segments c.args.at c.get.result.now [] c.get.ensures) in
    c.bytes_in-text.ensures ∙ ap (λ (bs : List ℕ). ranged bs c.args.range) bytes

pub returns-in-Some : goal.returns-in-Some
returns-in-Some c =
    let step = (goal.at.returns-in-Some c).After-bytes_in-text in
    let found = subst (IsIndexOf (known_texts step) c.bytes_in-text.result.now) c.in-Some.is c.find_text.ensures in
    let has : Contains (known_texts step) c.bytes_in-text.result.now = (c.in-Some._number, slice_get_within (known_texts step) c.in-Some._number c.bytes_in-text.result.now found, get_or_from_slice_get (known_texts step) c.in-Some._number c.bytes_in-text.result.now c.bytes_in-text.result.now found) in
    λ e small. is_new ((known_texts step) ++ (fresh_texts step)) (new_text step) e (Contains-append_left (known_texts step) (fresh_texts step) (new_text step) (subst (Contains (known_texts step)) (same_text step) has))

pub returns-in-Some-find_text : goal.returns-in-Some-find_text
returns-in-Some-find_text c =
    let step = (goal.at.returns-in-Some-find_text c).After-bytes_in-text in
    let found = subst (IsIndexOf (fresh_texts step) c.bytes_in-text.result.now) c.in-Some-find_text.is c.find_text-2.ensures in
    let has : Contains (fresh_texts step) c.bytes_in-text.result.now = (c.in-Some-find_text._number, slice_get_within (fresh_texts step) c.in-Some-find_text._number c.bytes_in-text.result.now found, get_or_from_slice_get (fresh_texts step) c.in-Some-find_text._number c.bytes_in-text.result.now c.bytes_in-text.result.now found) in
    λ e small. is_new ((known_texts step) ++ (fresh_texts step)) (new_text step) e (Contains-append_right (known_texts step) (fresh_texts step) (new_text step) (subst (Contains (fresh_texts step)) (same_text step) has))

pub put_text-requires-clause-new : goal.put_text-requires-clause-new
put_text-requires-clause-new c =
    let step = (goal.at.put_text-requires-clause-new c).After-bytes_in-text in
    let none = subst (IsIndexOf (fresh_texts step) c.bytes_in-text.result.now) c.in_default-find_text.is c.find_text-2.ensures in
    λ has. none (subst (Contains (fresh_texts step)) (sym (same_text step)) (subst (λ (ts : List (List ℕ)). Contains ts (new_text step)) (ap (map (located_text c.args.held.now.segments)) c.reserve.ensures.indices) has))

pub returns : goal.returns
returns c =
    let step = (goal.at.returns c).After-bytes_in-text in
    let segments : List (List ℕ) = c.args.held.now.segments in
    let none1 = subst (IsIndexOf (known_texts step) c.bytes_in-text.result.now) c.in_default.is c.find_text.ensures in
    let none2 = subst (IsIndexOf (fresh_texts step) c.bytes_in-text.result.now) c.in_default-find_text.is c.find_text-2.ensures in
    let never : ¬ Contains ((known_texts step) ++ (fresh_texts step)) (new_text step) = λ has. elim (Contains-append_cases (known_texts step) (fresh_texts step) (new_text step) has) [ inl a ↦ none1 (subst (Contains (known_texts step)) (sym (same_text step)) a) | inr b ↦ none2 (subst (Contains (fresh_texts step)) (sym (same_text step)) b) ] in
    record {
      there = new_is ((known_texts step) ++ (fresh_texts step)) (new_text step) never;
      small = omega (arith, c.if-text-gt-ARTEFACT_LIMIT.false, ap length (same_text step));
      is = omega (arith, c.len.ensures, c.len-2.ensures, length-append (known_texts step) (fresh_texts step), length-map c.args.texts.now.indices.items (located_text segments), length-map c.args.fresh.now.indices.items (located_text segments));
      located = c.put_text.ensures.are;
      texts_are = ap (λ (ts : List (List ℕ)). (known_texts step) ++ ts) (c.put_text.ensures.is ∙ ap (λ (ts : List (List ℕ)). ts ++ (new_text step) ∷ []) (ap (map (located_text segments)) c.reserve.ensures.indices)) ∙ sym (append_assoc (known_texts step) (fresh_texts step) ((new_text step) ∷ []));
    }
