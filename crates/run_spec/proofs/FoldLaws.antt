-- Folds over positions: what a position is given, and two folds that keep a relation.
use Rattle.std.proofs.Common.{◌≡◌, ℕ, zero, suc, ◌<◌, ◌≤◌, ◌==◌, refl, sym, ap, subst, subst₂, ◌∙◌, arith, inl, inr}
use Rattle.std.proofs.lemmas.Bool.{cases_eq, eq-eqb, ne_eqb, cond-true, cond-false}
use Rattle.run_spec.specs.Folds.{upto}

-- what holds of a number where it holds of all below it
pub by_all_below : (P : ℕ → Type 0) → ((k : ℕ) → ((d : ℕ) → d < k → P d) → P k) → (k : ℕ) → P k
by_all_below P step k = step k (below_it k)
  where
    below_it : (n d : ℕ) → d < n → P d
    below_it zero d lt = absurd (omega arith)
    below_it (suc n) d lt = step d (λ e l. below_it n e (omega arith))

module _ {R : Type 0} (next : (ℕ → R) → ℕ → R) (none : R) where
  pub upto_here : (n : ℕ) → upto next none (suc n) n ≡ next (upto next none n) n
  unfolding upto
  upto_here n = cond-true (n == n) (next (upto next none n) n) (upto next none n n) (eq-eqb n n refl)

  pub upto_other : (n k : ℕ) → (k ≡ n → ⊥) → upto next none (suc n) k ≡ upto next none n k
  unfolding upto
  upto_other n k ne = cond-false (k == n) (next (upto next none n) n) (upto next none n k) (ne_eqb k n ne)

  -- a position of the fold is given what follows from those before it
  pub upto_at : (n k : ℕ) → k < n → upto next none n k ≡ next (upto next none k) k
  upto_at zero k lt = absurd (omega arith)
  upto_at (suc n) k lt = elim (cases_eq k n) [
    | inl e ↦ ap (upto next none (suc n)) e ∙ upto_here n ∙ ap (λ (i : ℕ). next (upto next none i) i) (sym e)
    | inr ne ↦ upto_other n k ne ∙ upto_at n k (omega arith)
  ]

  -- and so a longer fold gives the same to it
  pub upto_longer : (m n k : ℕ) → k < m → k < n → upto next none m k ≡ upto next none n k
  upto_longer m n k a b = upto_at m k a ∙ sym (upto_at n k b)

  pub upto_past : (n k : ℕ) → n ≤ k → upto next none n k ≡ none
  unfolding upto
  upto_past zero k le = refl
  upto_past (suc n) k le = upto_other n k (λ e. omega arith) ∙ upto_past n k (omega arith)

-- two folds whose steps keep a relation
pub upto_both : {R S : Type 0} (P : ℕ → R → S → Type 0) (next : (ℕ → R) → ℕ → R) (none : R) (other : (ℕ → S) → ℕ → S) (nothing : S) → ((k : ℕ) → P k none nothing)
    → ((f : ℕ → R) (g : ℕ → S) (k : ℕ) → ((d : ℕ) → P d (f d) (g d)) → P k (next f k) (other g k)) → (n k : ℕ) → P k (upto next none n k) (upto other nothing n k)
unfolding upto
upto_both P next none other nothing first step zero k = first k
upto_both {R} {S} P next none other nothing first step (suc n) k =
    let rest : (d : ℕ) → P d (upto next none n d) (upto other nothing n d) = upto_both P next none other nothing first step n in
    elim (cases_eq k n) [
      | inl e ↦ subst₂ (P k) (sym (ap (upto next none (suc n)) e ∙ upto_here next none n)) (sym (ap (upto other nothing (suc n)) e ∙ upto_here other nothing n))
          (subst (λ (i : ℕ). P i (next (upto next none n) n) (other (upto other nothing n) n)) (sym e) (step (upto next none n) (upto other nothing n) n rest))
      | inr ne ↦ subst₂ (P k) (sym (upto_other next none n k ne)) (sym (upto_other other nothing n k ne)) (rest k)
    ]
