-- Tests on numbers that can be decided, and the largest number that passes one.
use Rattle.std.proofs.Common.{◌≡◌, ℕ, zero, suc, ◌≤◌, ◌⊎◌, Bool, true, false, refl, subst, inl, inr, ⊎_elim, arith}
use Rattle.std.proofs.lemmas.Bool.Decides.{eqb_tells}
use Rattle.std.proofs.str.Laws.{order}

-- a fact that holds or doesn't
abbrev pub Decided : Type 0 → Type 0
Decided fact = fact ⊎ (fact → ⊥)

pub both : {A B : Type 0} → Decided A → Decided B → Decided (A × B)
both (inl a) (inl b) = inl (a, b)
both (inl a) (inr no_b) = inr (λ p. no_b p.1)
both (inr no_a) b = inr (λ p. no_a p.0)

pub denied : {A : Type 0} → Decided A → Decided (A → ⊥)
denied (inl a) = inr (λ no_a. no_a a)
denied (inr no_a) = inl no_a

pub same_bool : (a b : Bool) → Decided (a ≡ b)
same_bool true true = inl refl
same_bool true false = inr (λ e. cc)
same_bool false true = inr (λ e. cc)
same_bool false false = inl refl

pub same_number : (a b : ℕ) → Decided (a ≡ b)
same_number a b = ⊎_elim (λ p. inl p.1) (λ p. inr p.1) (eqb_tells a b)

pub at_most : (a b : ℕ) → Decided (a ≤ b)
at_most a b = ⊎_elim (λ h. inr (λ le. omega arith)) (λ h. inl h) (order b a)

-- the largest number up to a bound that has a property
pub record Largest (P : ℕ → Type 0) (bound : ℕ) : Type 0 where
  pub is : ℕ
  pub within : is ≤ bound
  pub holds : P is
  pub largest : (other : ℕ) → other ≤ bound → P other → other ≤ is

-- none up to a bound has the property
abbrev pub NoneUpTo : (ℕ → Type 0) → ℕ → Type 0
NoneUpTo P bound = (other : ℕ) → other ≤ bound → P other → ⊥

pub largest : (P : ℕ → Type 0) → ((n : ℕ) → Decided (P n)) → (bound : ℕ) → Largest P bound ⊎ NoneUpTo P bound
largest P decide zero =
    ⊎_elim (λ holds. inl (record { is = 0; within = omega arith; holds = holds; largest = λ other within _. within })) (λ none. inr (λ other within holds. let is_zero : other ≡ 0 = omega arith in none (subst P is_zero holds))) (decide 0)
largest P decide (suc n) =
    ⊎_elim
    (λ holds. inl (record { is = suc n; within = omega arith; holds = holds; largest = λ other within _. within }))
    (λ fails.
    let lower : (other : ℕ) → other ≤ suc n → P other → other ≤ n = λ other within holds. ⊎_elim (λ h. omega arith) (λ h. let is_top : other ≡ suc n = omega arith in absurd (fails (subst P is_top holds))) (order other (suc n)) in
    ⊎_elim
    (λ (found : Largest P n). inl (record { is = found.is; within = omega (arith, found.within); holds = found.holds; largest = λ other within holds. found.largest other (lower other within holds) holds }))
    (λ none. inr (λ other within holds. none other (lower other within holds) holds))
    (largest P decide n))
    (decide (suc n))
