-- The parts of bytes between delimiters, one after the other.
use Rattle.std.proofs.Common.{◌≡◌, ℕ, suc, ◌+◌, ◌<◌, ◌≤◌, Bool, ltb, List, [], ◌∷◌, length, take, drop, Some, None, refl, sym, ap, ◌∙◌, arith, inl, inr}
use Rattle.std.specs.List.{slice_split, onto_first, position, position_or_len}
use Rattle.std.proofs.lemmas.Bool.{cases_Bool, cond-true, cond-false, ltb-true, ltb-false}
use Rattle.std.proofs.lemmas.List.Splits.{slice_split_first, slice_split-cons_no}
use Rattle.std.proofs.lemmas.Option.{none-some, same_Some}

module _ {X : Type 0} (p : X → Bool) where
  not_found : (xs : List X) → length xs ≤ position_or_len p xs → slice_split p xs ≡ xs ∷ []
  not_found [] h = refl
  not_found (x ∷ xs) h =
      elim (cases_Bool (p x)) [
        | inl t ↦ let no_room : suc (length xs) ≤ 0 = rw t at h in absurd (omega arith)
        | inr f ↦ let less : suc (length xs) ≤ 1 + position_or_len p xs = rw f at h in slice_split-cons_no p x xs f ∙ ap (onto_first x) (not_found xs (omega arith))
      ]

  pub split_at_delimiter : (xs : List X) (i : ℕ) (d : X) → position p xs ≡ Some i → slice_split p xs ≡ take i xs ∷ slice_split p (drop (i + 1) xs)
  split_at_delimiter xs i d h =
      elim (cases_Bool (ltb (position_or_len p xs) (length xs))) [
        | inl t ↦
            let same : position_or_len p xs ≡ i = same_Some _ _ (sym (cond-true (ltb (position_or_len p xs) (length xs)) (Some (position_or_len p xs)) None t) ∙ h) in
            let low : position_or_len p xs < length xs = ltb-true _ _ t in
            rw same at (slice_split_first p xs d low)
        | inr f ↦ absurd (none-some i (sym (cond-false (ltb (position_or_len p xs) (length xs)) (Some (position_or_len p xs)) None f) ∙ h))
      ]

  pub split_no_delimiter : (xs : List X) → position p xs ≡ None → slice_split p xs ≡ xs ∷ []
  split_no_delimiter xs h =
      elim (cases_Bool (ltb (position_or_len p xs) (length xs))) [
        | inl t ↦ absurd (none-some (position_or_len p xs) (sym h ∙ cond-true (ltb (position_or_len p xs) (length xs)) (Some (position_or_len p xs)) None t))
        | inr f ↦ not_found xs (ltb-false _ _ f)
      ]
