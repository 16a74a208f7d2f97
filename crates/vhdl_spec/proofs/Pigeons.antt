-- Tests that let more and more elements of a list pass stop growing after as many steps as the list is long.
use Rattle.std.proofs.Common.{◌≡◌, ℕ, zero, suc, ◌+◌, ◌<◌, ◌≤◌, Bool, true, false, cond, ◌⊎◌, inl, inr, List, [], ◌∷◌, length, Contains, refl, sym, subst, arith}
use Rattle.std.proofs.lemmas.Bool.{cases_lt}
use Rattle.vhdl_spec.proofs.SomeTests.{Contains-first, Contains-later}

-- how many elements pass
passes : {X : Type 0} → (X → Bool) → List X → ℕ
passes p [] = 0
passes p (x ∷ xs) = cond (p x) 1 0 + passes p xs

passes_few : {X : Type 0} (p : X → Bool) (xs : List X) → passes p xs ≤ length xs
unfolding passes
passes_few p [] = omega arith
passes_few p (x ∷ xs) = let rest = passes_few p xs in elim (p x) as (λ b. cond b 1 0 + passes p xs ≤ suc (length xs)) [ true ↦ omega arith | false ↦ omega arith ]

first_same : (a b : Bool) (m n : ℕ) → cond b 1 0 + n ≤ cond a 1 0 + m → m ≤ n → b ≡ true → a ≡ true
first_same true b m n few more passing = refl
first_same false true m n few more passing = absurd (omega arith)
first_same false false m n few more passing = passing

rest_same : (a b : Bool) (m n : ℕ) → (a ≡ true → b ≡ true) → cond b 1 0 + n ≤ cond a 1 0 + m → m ≤ n → n ≤ m
rest_same true true m n grows few more = omega arith
rest_same true false m n grows few more = let no : false ≡ true = grows refl in let never : ⊥ = cc in absurd never
rest_same false true m n grows few more = omega arith
rest_same false false m n grows few more = omega arith

module _ {X : Type 0} (p q : X → Bool) where
  -- each element of a list that passes the one test passes the other
  abbrev Grows : List X → Type 0
  Grows xs = (x : X) → Contains xs x → p x ≡ true → q x ≡ true

  passes_more : (xs : List X) → Grows xs → passes p xs ≤ passes q xs
  unfolding passes
  passes_more [] grows = omega arith
  passes_more (x ∷ xs) grows =
      let rest = passes_more xs (λ (y : X) (there : Contains xs y). grows y (Contains-later x y xs there)) in
      by_cases (p x) (q x) (grows x (Contains-first x xs)) rest where
        by_cases : (a b : Bool) → (a ≡ true → b ≡ true) → passes p xs ≤ passes q xs → cond a 1 0 + passes p xs ≤ cond b 1 0 + passes q xs
        by_cases true true h rest = omega arith
        by_cases true false h rest = let no : false ≡ true = h refl in let never : ⊥ = cc in absurd never
        by_cases false true h rest = omega arith
        by_cases false false h rest = omega arith

  -- where no more pass, the same pass
  passes_same : (xs : List X) → Grows xs → passes q xs ≤ passes p xs → (x : X) → Contains xs x → q x ≡ true → p x ≡ true
  unfolding passes
  passes_same [] grows few x (k, within, is) passing = absurd (omega arith)
  passes_same (y ∷ xs) grows few x (zero, within, is) passing =
      let more = passes_more xs (λ (z : X) (there : Contains xs z). grows z (Contains-later y z xs there)) in
      subst (λ (z : X). p z ≡ true) is (first_same (p y) (q y) (passes p xs) (passes q xs) few more (subst (λ (z : X). q z ≡ true) (sym is) passing))
  passes_same (y ∷ xs) grows few x (suc k, within, is) passing =
      let later : Grows xs = λ (z : X) (there : Contains xs z). grows z (Contains-later y z xs there) in
      let fewer = rest_same (p y) (q y) (passes p xs) (passes q xs) (grows y (Contains-first y xs)) few (passes_more xs later) in
      passes_same xs later fewer x (k, omega arith, is) passing

module _ {X : Type 0} (tests : ℕ → X → Bool) (xs : List X) (grows : (k : ℕ) (x : X) → Contains xs x → tests k x ≡ true → tests (suc k) x ≡ true) where
  -- no element passes for the first time in the step after
  abbrev pub Rests : ℕ → Type 0
  Rests k = (x : X) → Contains xs x → tests (suc k) x ≡ true → tests k x ≡ true

  rests_or_many : (k : ℕ) → ((j : ℕ) × (j < k) × Rests j) ⊎ (k ≤ passes (tests k) xs)
  rests_or_many zero = inr (omega arith)
  rests_or_many (suc k) =
      elim (rests_or_many k) [
        | inl (j, before, rests) ↦ inl (j, omega arith, rests)
        | inr many ↦ elim (cases_lt (passes (tests k) xs) (passes (tests (suc k)) xs)) [
          | inl more ↦ inr (omega arith)
          | inr same ↦ inl (k, omega arith, passes_same (tests k) (tests (suc k)) xs (grows k) same)
        ]
      ]

  pub rests : (j : ℕ) × (j ≤ length xs) × Rests j
  rests =
      elim (rests_or_many (suc (length xs))) [
        | inl (j, before, resting) ↦ (j, omega arith, resting)
        | inr many ↦ let few = passes_few (tests (suc (length xs))) xs in absurd (omega arith)
      ]
