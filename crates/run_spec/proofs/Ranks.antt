-- The first position that passes a test, and the items of a list with one more at its end.
use Rattle.std.proofs.Common.{◌≡◌, ℕ, zero, suc, ◌+◌, ◌<◌, ◌≤◌, Bool, true, false, List, [], ◌∷◌, ◌++◌, length, Some, None, refl, ap, ◌∙◌, arith, inl, inr}
use Rattle.std.specs.Prelude.{slice_get}
use Rattle.std.proofs.lemmas.Bool.{cases_lt, cond-true, cond-false}
use Rattle.run_spec.specs.Moves.{first_from}

-- the first position that passes
pub first_found : (p : ℕ → Bool) (from n i : ℕ) → ((k : ℕ) → from ≤ k → k < i → p k ≡ false) → from ≤ i → i < from + n → p i ≡ true → first_from p from n ≡ Some i
unfolding first_from
first_found p from zero i low le lt at = absurd (omega arith)
first_found p from (suc n) i low le lt at =
    elim (cases_lt from i) [
      | inl l ↦ cond-false (p from) (Some from) (first_from p (suc from) n) (low from (omega arith) l) ∙ first_found p (suc from) n i (λ k a b. low k (omega arith) b) (omega arith) (omega arith) at
      | inr l ↦ let e : from ≡ i = omega arith in cond-true (p from) (Some from) (first_from p (suc from) n) (ap p e ∙ at) ∙ ap (λ (k : ℕ). Some k) e
    ]

-- none passes
pub first_none : (p : ℕ → Bool) (from n : ℕ) → ((k : ℕ) → from ≤ k → k < from + n → p k ≡ false) → first_from p from n ≡ None
unfolding first_from
first_none p from zero low = refl
first_none p from (suc n) low =
    cond-false (p from) (Some from) (first_from p (suc from) n) (low from (omega arith) (omega arith)) ∙ first_none p (suc from) n (λ k a b. low k (omega arith) (omega arith))

-- one more item at the end
pub slice_get-pushed : {X : Type 0} (xs : List X) (x : X) → slice_get (xs ++ x ∷ []) (length xs) ≡ Some x
slice_get-pushed [] x = refl
slice_get-pushed (y ∷ ys) x = slice_get-pushed ys x

pub slice_get-push_other : {X : Type 0} (xs : List X) (x : X) (k : ℕ) → (k ≡ length xs → ⊥) → slice_get (xs ++ x ∷ []) k ≡ slice_get xs k
slice_get-push_other [] x zero h = absurd (h refl)
slice_get-push_other [] x (suc k) h = refl
slice_get-push_other (y ∷ ys) x zero h = refl
slice_get-push_other (y ∷ ys) x (suc k) h = slice_get-push_other ys x k (λ e. h (ap suc e))
