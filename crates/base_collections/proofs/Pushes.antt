-- A list with one element more, read at a bucket.
use Rattle.std.proofs.Common.{◌≡◌, ℕ, zero, suc, List, [], ◌∷◌, ◌++◌, length, Contains, Some, ◌⊎◌, inl, inr, refl, sym, ap}
use Rattle.std.specs.Prelude.{slice_get}
use Rattle.std.proofs.lemmas.Option.{get_or_from_slice_get, slice_get_read, slice_get_within}

module _ {X : Type 0} (x : X) where
  -- each element stays at its bucket after one is appended
  pub left_push : (xs : List X) (bucket : ℕ) (y : X) → slice_get xs bucket ≡ Some y → slice_get (xs ++ x ∷ []) bucket ≡ Some y
  left_push [] bucket y at = let never : ⊥ = cc in absurd never
  left_push (z ∷ xs) zero y at = at
  left_push (z ∷ xs) (suc bucket) y at = left_push xs bucket y at

  pub end_push : (xs : List X) → slice_get (xs ++ x ∷ []) (length xs) ≡ Some x
  end_push [] = refl
  end_push (z ∷ xs) = end_push xs

  -- an element of the longer list was at its bucket before, or is the appended one
  pub cases_push : (xs : List X) (bucket : ℕ) (y : X) → slice_get (xs ++ x ∷ []) bucket ≡ Some y → (slice_get xs bucket ≡ Some y) ⊎ ((bucket ≡ length xs) × (x ≡ y))
  cases_push [] zero y at = inr (refl, cc)
  cases_push [] (suc bucket) y at = let never : ⊥ = cc in absurd never
  cases_push (z ∷ xs) zero y at = inl at
  cases_push (z ∷ xs) (suc bucket) y at = elim (cases_push xs bucket y at) [ inl e ↦ inl e | inr e ↦ inr (ap suc e.0, e.1) ]

-- an element at a bucket is contained, and what is contained is at a bucket
pub contained : {X : Type 0} (xs : List X) (bucket : ℕ) (x : X) → slice_get xs bucket ≡ Some x → Contains xs x
contained xs bucket x at = (bucket, slice_get_within xs bucket x at, get_or_from_slice_get xs bucket x x at)

pub at_of : {X : Type 0} (xs : List X) (x : X) (has : Contains xs x) → slice_get xs has.0 ≡ Some x
at_of xs x has = slice_get_read xs (length xs) has.0 x refl has.1 (sym has.2)
