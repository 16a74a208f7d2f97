-- What passes tests: of the items of a list, and first among positions.
use Rattle.std.proofs.Common.{◌≡◌, ℕ, zero, suc, ◌+◌, ◌<◌, ◌≤◌, ◌==◌, Bool, true, false, ◌&&◌, ◌||◌, cond, List, [], ◌∷◌, length, get_or, take, drop, Option, Some, None, refl, sym, ap, ap₂, ◌∙◌, arith, inl, inr}
use Rattle.std.specs.Prelude.{All}
use Rattle.std.specs.List.{list_all, remove}
use Rattle.std.proofs.lemmas.Bool.{cases_eq, cases_Bool, cases_lt, cond-true, cond-false, and_parts, and_from, eq-eqb, ne_eqb, false≢true}
use Rattle.std.proofs.lemmas.Option.{none-some}
use Rattle.std.proofs.lemmas.List.Elements.{All-append, All-take, All-drop}
use Rattle.std.proofs.Math.ListN.{set}
use Rattle.std.proofs.lemmas.List.{get_or-set_other}
use Rattle.std.proofs.lemmas.Grind.{get_or-set_at}
use Rattle.base_collections.specs.Positions.{IsNext}
use Rattle.run_spec.specs.Moves.{first_from}
use Rattle.run_spec.proofs.Ranks.{first_found, first_none}

-- all pass a test that passes whatever another does
pub list_all_more : (p q : ℕ → Bool) (n : ℕ) → ((k : ℕ) → k < n → p k ≡ true → q k ≡ true) → (xs : List ℕ) → All (λ x. x < n) xs → list_all p xs ≡ true → list_all q xs ≡ true
list_all_more p q n more [] below all = refl
list_all_more p q n more (x ∷ xs) below all =
    let both : (p x ≡ true) × (list_all p xs ≡ true) = and_parts (p x) (list_all p xs) all in
    and_from (q x) (list_all q xs) (more x (below 0 x (omega arith)) both.0) (list_all_more p q n more xs (λ k d lt. below (suc k) d (omega arith)) both.1)

pub list_all_same : (p q : ℕ → Bool) (n : ℕ) → ((k : ℕ) → k < n → p k ≡ q k) → (xs : List ℕ) → All (λ x. x < n) xs → list_all p xs ≡ list_all q xs
list_all_same p q n same [] below = refl
list_all_same p q n same (x ∷ xs) below = ap₂ ◌&&◌ (same x (below 0 x (omega arith))) (list_all_same p q n same xs (λ k d lt. below (suc k) d (omega arith)))

-- two tests that agree find the same first position
pub first_same : (p q : ℕ → Bool) (from n : ℕ) → ((k : ℕ) → from ≤ k → k < from + n → p k ≡ q k) → first_from p from n ≡ first_from q from n
unfolding first_from
first_same p q from zero same = refl
first_same p q from (suc n) same =
    ap (λ b. cond b (Some from) (first_from p (suc from) n)) (same from (omega arith) (omega arith))
    ∙ ap (λ rest. cond (q from) (Some from) rest) (first_same p q (suc from) n (λ k a b. same k (omega arith) (omega arith)))

-- the position that is found passes the test, and is one of the positions that were tried
pub first_is : (p : ℕ → Bool) (from n i : ℕ) → first_from p from n ≡ Some i → (p i ≡ true) × (i < from + n)
unfolding first_from
first_is p from zero i h = absurd (let nothing : ⊥ = cc in nothing)
first_is p from (suc n) i h = elim (cases_Bool (p from)) [
  | inl does ↦
      let e : Some from ≡ Some i = sym (cond-true (p from) (Some from) (first_from p (suc from) n) does) ∙ h in
      let same : from ≡ i = cc in
      (ap p (sym same) ∙ does, omega arith)
  | inr fails ↦
      let rest = first_is p (suc from) n i (sym (cond-false (p from) (Some from) (first_from p (suc from) n) fails) ∙ h) in
      (rest.0, omega (arith, rest.1))
]

-- if no position is found, no position that was tried passes the test
pub none_passes : (p : ℕ → Bool) (from n : ℕ) → first_from p from n ≡ None → (k : ℕ) → from ≤ k → k < from + n → p k ≡ false
unfolding first_from
none_passes p from zero h k a b = absurd (omega arith)
none_passes p from (suc n) h k a b = elim (cases_Bool (p from)) [
  | inl does ↦ absurd (none-some from (sym h ∙ cond-true (p from) (Some from) (first_from p (suc from) n) does))
  | inr fails ↦ elim (cases_eq k from) [
    | inl e ↦ ap p e ∙ fails
    | inr ne ↦ none_passes p (suc from) n (sym (cond-false (p from) (Some from) (first_from p (suc from) n) fails) ∙ h) k (omega (arith, ne)) (omega arith)
  ]
]

-- the next position of a set is the first that passes
pub next_first : (p : ℕ → Bool) (n : ℕ) (o : Option ℕ) → IsNext p 0 o → ((k : ℕ) → n ≤ k → p k ≡ false) → first_from p 0 n ≡ o
next_first p n (Some next) is past = elim (cases_lt next n) [
  | inl l ↦ first_found p 0 n next (λ k a b. is.2 k a b) (omega arith) (omega arith) is.1
  | inr l ↦ absurd (false≢true (sym (past next l) ∙ is.1))
]
next_first p n None is past = first_none p 0 n (λ k a b. is k a)

pub or_no : (a e : Bool) → e ≡ false → (a || e) ≡ a
or_no true e fails = refl
or_no false e fails = fails

pub or_yes : (a e : Bool) → e ≡ true → (a || e) ≡ true
or_yes true e does = refl
or_yes false e does = does

pub set_test : (xs : List Bool) (at k : ℕ) → at < length xs → get_or (set xs at true) k false ≡ (get_or xs k false || (at == k))
set_test xs at k lt = elim (cases_eq k at) [
  | inl e ↦ get_or-set_at xs at k true false e lt ∙ sym (or_yes (get_or xs k false) (at == k) (eq-eqb at k (sym e)))
  | inr ne ↦ get_or-set_other xs at k true false ne ∙ sym (or_no (get_or xs k false) (at == k) (ne_eqb at k (λ e. ne (sym e))))
]

-- a list is unchanged where an item is set to what it was
pub set_again : (xs : List Bool) (at : ℕ) → at < length xs → get_or xs at false ≡ true → xs ≡ set xs at true
set_again [] at lt was = absurd (omega arith)
set_again (x ∷ xs) zero lt was = ap (λ (b : Bool). b ∷ xs) was
set_again (x ∷ xs) (suc at) lt was = ap (λ (ys : List Bool). x ∷ ys) (set_again xs at (omega arith) was)

pub all_removed : {A : Type 0} (P : A → Type 0) (xs : List A) (at : ℕ) → All P xs → All P (remove xs at)
all_removed P xs at all = All-append P (take at xs) (drop (suc at) xs) (All-take P at xs all) (All-drop P (suc at) xs all)
