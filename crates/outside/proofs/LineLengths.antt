-- The position of the first element that passes a test, from the answer of a search.
use Rattle.std.proofs.Common.{◌≡◌, ℕ, ◌≤◌, Bool, not, ltb, List, length, Some, None, sym, ◌∙◌, arith, inl, inr}
use Rattle.std.specs.List.{position, position_or_len}
use Rattle.std.proofs.lemmas.Bool.{cases_Bool, cond-true, cond-false, ltb-false}
use Rattle.std.proofs.lemmas.List.Sums.{prefix_len-le-length}
use Rattle.std.proofs.lemmas.Option.{none-some, same_Some}

module _ {X : Type 0} (p : X → Bool) where
  pub first_found : (xs : List X) (i : ℕ) → position p xs ≡ Some i → i ≡ position_or_len p xs
  first_found xs i h =
      elim (cases_Bool (ltb (position_or_len p xs) (length xs))) [
        | inl t ↦ same_Some _ _ (sym h ∙ cond-true (ltb (position_or_len p xs) (length xs)) (Some (position_or_len p xs)) None t)
        | inr f ↦ absurd (none-some i (sym (cond-false (ltb (position_or_len p xs) (length xs)) (Some (position_or_len p xs)) None f) ∙ h))
      ]

  pub none_found : (xs : List X) → position p xs ≡ None → length xs ≡ position_or_len p xs
  none_found xs h =
      elim (cases_Bool (ltb (position_or_len p xs) (length xs))) [
        | inl t ↦ absurd (none-some (position_or_len p xs) (sym h ∙ cond-true (ltb (position_or_len p xs) (length xs)) (Some (position_or_len p xs)) None t))
        | inr f ↦ let high = ltb-false _ _ f in omega (arith, prefix_len-le-length (λ x. not (p x)) xs)
      ]
