-- A text is found among those of its fingerprint.
use Rattle.std.proofs.Common.{◌≡◌, ◌≢◌, ℕ, ◌<◌, List, [], length, map, get_or, None, Some, Option, ap, subst, ◌∙◌, arith, inl, inr}
use Rattle.std.specs.Prelude.{Contains, slice_get}
use Rattle.std.proofs.lemmas.Bool.{cases_lt}
use Rattle.std.proofs.lemmas.List.{get_or-map, get_or_default, length-map}
use Rattle.std.proofs.lemmas.Option.{slice_get-get_or}
use Rattle.base_collections.specs.Indexes.{IsLastWith}
use Rattle.base_collections.specs.Fingerprints.{fingerprint_of}
use Rattle.store_form_2.specs.Locations.{IsUpTo}

module _ (texts : List (List ℕ)) (fingerprints : List ℕ) (text : List ℕ) (fingerprinted : fingerprints ≡ map fingerprint_of texts) where
  size : length fingerprints ≡ length texts
  size = ap length fingerprinted ∙ length-map texts fingerprint_of

  fingerprint_at : (k : ℕ) → k < length texts → get_or fingerprints k 0 ≡ fingerprint_of (get_or texts k [])
  fingerprint_at k l = ap (λ (ms : List ℕ). get_or ms k 0) fingerprinted ∙ get_or-map fingerprint_of texts k [] 0 l

  -- a text of another fingerprint is another text
  other_text : (k : ℕ) → k < length texts → get_or fingerprints k 0 ≢ fingerprint_of text → get_or texts k [] ≢ text
  other_text k l other same = other (fingerprint_at k l ∙ ap fingerprint_of same)

  -- no text below the bound equals the given text
  none_below : (bound : ℕ) → IsLastWith fingerprints (fingerprint_of text) bound None → (k : ℕ) → k < bound → k < length texts → get_or texts k [] ≢ text
  none_below bound last k low l = other_text k l (last k low)

  pub not_found : IsUpTo texts fingerprints text None → ¬ Contains texts text
  not_found up has =
      let k : ℕ = has.0 in
      let here : get_or texts k [] ≡ text = get_or_default texts k [] text has.1 ∙ has.2 in
      elim (cases_lt k up.bound) [
        | inl a ↦ none_below up.bound up.last k a has.1 here
        | inr a ↦ up.others k a has.1 here
      ]

  pub candidate_low : (number : ℕ) → IsUpTo texts fingerprints text (Some number) → number < length texts
  candidate_low number up = omega (arith, up.last.0, up.within, size)

  pub is_found : (number : ℕ) → IsUpTo texts fingerprints text (Some number) → get_or texts number [] ≡ text → slice_get texts number ≡ Some text
  is_found number up same = slice_get-get_or texts number [] (candidate_low number up) ∙ ap (λ (t : List ℕ). Some t) same

  -- the next candidate
  pub further : (number : ℕ) (next : Option ℕ) → IsUpTo texts fingerprints text (Some number) → get_or texts number [] ≢ text → IsLastWith fingerprints (get_or fingerprints number 0) number next → IsUpTo texts fingerprints text next
  further number next up other last = record {
    bound = number;
    within = omega (arith, up.last.0, up.within);
    last = subst (λ (m : ℕ). IsLastWith fingerprints m number next) up.last.1 last;
    others = λ k low l.
        elim (cases_lt number k) [
          | inl a ↦ elim (cases_lt k up.bound) [
            | inl b ↦ other_text k l (up.last.2 k a b)
            | inr b ↦ up.others k b l
          ]
          | inr a ↦ let here : number ≡ k = omega arith in subst (λ (n : ℕ). get_or texts n [] ≢ text) here other
        ];
  }
