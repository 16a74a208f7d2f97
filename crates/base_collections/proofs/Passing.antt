-- The numbers below another that pass a test, up to the next that does.
use Rattle.std.proofs.Common.{◌≡◌, ℕ, zero, suc, ◌+◌, ◌<◌, ◌≤◌, Bool, true, false, List, [], ◌∷◌, ◌++◌, sym, ap, ◌∙◌, arith, inl, inr, append-nil}
use Rattle.std.specs.List.{filter}
use Rattle.std.proofs.lemmas.Bool.{cases_lt, cond-true, cond-false}
use Rattle.std.proofs.lemmas.List.Elements.{filter-append}
use Rattle.base.specs.PresentGraph.{below}

-- none passes from one number up to another
pub none_between : (p : ℕ → Bool) (from end : ℕ) → from ≤ end → ((k : ℕ) → from ≤ k → k < end → p k ≡ false) → filter p (below end) ≡ filter p (below from)
unfolding below
none_between p from zero le fails = let e : from ≡ 0 = omega arith in ap (λ (n : ℕ). filter p (below n)) (sym e)
none_between p from (suc end) le fails =
    elim (cases_lt end from) [
      | inl l ↦ let e : suc end ≡ from = omega arith in ap (λ (n : ℕ). filter p (below n)) e
      | inr l ↦
          filter-append p (below end) (end ∷ []) ∙ ap (λ (xs : List ℕ). filter p (below end) ++ xs) (cond-false (p end) (end ∷ []) [] (fails end l (omega arith))) ∙ append-nil (filter p (below end))
          ∙ none_between p from end l (λ k a b. fails k a (omega arith))
    ]

-- the next one that passes
pub one_passes : (p : ℕ → Bool) (from next : ℕ) → from ≤ next → p next ≡ true → ((k : ℕ) → from ≤ k → k < next → p k ≡ false) → filter p (below (next + 1)) ≡ filter p (below from) ++ next ∷ []
unfolding below
one_passes p from next le at fails =
    let e : next + 1 ≡ suc next = omega arith in
    ap (λ (n : ℕ). filter p (below n)) e ∙ filter-append p (below next) (next ∷ [])
    ∙ ap (λ (xs : List ℕ). filter p (below next) ++ xs) (cond-true (p next) (next ∷ []) [] at) ∙ ap (λ (xs : List ℕ). xs ++ next ∷ []) (none_between p from next le fails)
