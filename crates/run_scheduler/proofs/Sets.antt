-- How many positions are in a set, as one more or one less is.
use Rattle.std.proofs.Common.{◌≡◌, ◌≢◌, ℕ, zero, suc, ◌+◌, ◌<◌, ◌≤◌, ◌==◌, Bool, true, false, not, ◌&&◌, ◌||◌, cond, refl, sym, ap, ◌∙◌, arith, inl, inr}
use Rattle.std.specs.Prelude.{count_by}
use Rattle.std.proofs.lemmas.Bool.{cases_eq, cond-true, cond-false, eq-eqb, ne_eqb}
use Rattle.std.proofs.lemmas.List.Sums.{sum_by_push}
use Rattle.base.specs.PresentGraph.{below}
use Rattle.base_collections.specs.Positions.{has}
use Rattle.base_collections.specs.declared.set.PositionSet.{PositionSet}
use Rattle.order.proofs.WaitSteps.{and_here, and_other}
use Rattle.run_scheduler.specs.Machines.{count_in}
use Rattle.run_scheduler.proofs.Passing.{or_no, or_yes}

count_next : (p : ℕ → Bool) (n : ℕ) → count_by p (below (suc n)) ≡ count_by p (below n) + cond (p n) 1 0
unfolding below
count_next p n = sum_by_push (λ k. cond (p k) 1 0) (below n) n

one_most : (b : Bool) → cond {A = ℕ} b 1 0 ≤ 1
one_most true = omega arith
one_most false = omega arith

module _ (p q : ℕ → Bool) (at : ℕ) (others : (k : ℕ) → k ≢ at → q k ≡ p k) where
  -- but at one position the tests agree
  same_till : (n : ℕ) → n ≤ at → count_by q (below n) ≡ count_by p (below n)
  unfolding below
  same_till zero le = refl
  same_till (suc n) le =
      let here : cond {A = ℕ} (q n) 1 0 ≡ cond {A = ℕ} (p n) 1 0 = ap (λ (b : Bool). cond {A = ℕ} b 1 0) (others n (λ e. omega (arith, le, e))) in
      omega (arith, count_next p n, count_next q n, same_till n (omega arith), here)

  both_ways_till : (n : ℕ) → at < n → count_by q (below n) + cond (p at) 1 0 ≡ count_by p (below n) + cond (q at) 1 0
  unfolding below
  both_ways_till zero lt = absurd (omega arith)
  both_ways_till (suc n) lt = elim (cases_eq n at) [
    | inl e ↦
        let a : cond {A = ℕ} (q n) 1 0 ≡ cond {A = ℕ} (q at) 1 0 = ap (λ (k : ℕ). cond {A = ℕ} (q k) 1 0) e in
        let b : cond {A = ℕ} (p n) 1 0 ≡ cond {A = ℕ} (p at) 1 0 = ap (λ (k : ℕ). cond {A = ℕ} (p k) 1 0) e in
        omega (arith, count_next p n, count_next q n, same_till n (omega (arith, e)), a, b)
    | inr ne ↦
        let here : cond {A = ℕ} (q n) 1 0 ≡ cond {A = ℕ} (p n) 1 0 = ap (λ (b : Bool). cond {A = ℕ} b 1 0) (others n ne) in
        omega (arith, count_next p n, count_next q n, both_ways_till n (omega (arith, ne, lt)), here)
  ]

module _ (old new : PositionSet) (at n : ℕ) (lt : at < n) (less : (k : ℕ) → has new k ≡ (has old k && not (at == k))) where
  gone : cond {A = ℕ} (has new at) 1 0 ≡ 0
  gone = cond-false (has new at) 1 0 (less at ∙ and_here (has old at) (at == at) (eq-eqb at at refl))

  counted : count_in new n + cond (has old at) 1 0 ≡ count_in old n + cond (has new at) 1 0
  unfolding count_in
  counted = both_ways_till (has old) (has new) at (λ k ne. less k ∙ and_other (has old k) (at == k) (ne_eqb at k (λ e. ne (sym e)))) n lt

  pub no_more_in : count_in new n ≤ count_in old n
  no_more_in = omega (arith, counted, gone)

  pub one_less_in : has old at ≡ true → count_in new n + 1 ≡ count_in old n
  one_less_in was = let one : cond {A = ℕ} (has old at) 1 0 ≡ 1 = cond-true (has old at) 1 0 was in omega (arith, counted, gone, one)

pub one_more_in : (old new : PositionSet) (at n : ℕ) → at < n → ((k : ℕ) → k ≢ at → has new k ≡ has old k) → count_in new n ≤ count_in old n + 1
unfolding count_in
one_more_in old new at n lt others = omega (arith, both_ways_till (has old) (has new) at others n lt, one_most (has new at))

pub less_by : (old new : PositionSet) (at : ℕ) → has new at ≡ false → ((k : ℕ) → k ≢ at → has new k ≡ has old k) → (k : ℕ) → has new k ≡ (has old k && not (at == k))
less_by old new at gone_here others k = elim (cases_eq k at) [
  | inl e ↦ ap (has new) e ∙ gone_here ∙ sym (and_here (has old k) (at == k) (eq-eqb at k (sym e)))
  | inr ne ↦ others k ne ∙ sym (and_other (has old k) (at == k) (ne_eqb at k (λ e. ne (sym e))))
]

pub more_by : (old new : PositionSet) (at : ℕ) → has new at ≡ true → ((k : ℕ) → k ≢ at → has new k ≡ has old k) → (k : ℕ) → has new k ≡ (has old k || (at == k))
more_by old new at here others k = elim (cases_eq k at) [
  | inl e ↦ ap (has new) e ∙ here ∙ sym (or_yes (has old k) (at == k) (eq-eqb at k (sym e)))
  | inr ne ↦ others k ne ∙ sym (or_no (has old k) (at == k) (ne_eqb at k (λ e. ne (sym e))))
]
