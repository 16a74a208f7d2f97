-- What lists have that a test or a function makes of others.
use Rattle.std.proofs.Common.{◌≡◌, ℕ, zero, suc, ◌<◌, ◌≤◌, Bool, true, ◌&&◌, Option, Some, List, [], ◌∷◌, length, map, get_or, refl, sym, ap, subst, ◌∙◌, arith, inl, inr}
use Rattle.std.specs.Prelude.{Contains, filter}
use Rattle.std.specs.List.{filter_map, list_all, cons_option}
use Rattle.std.proofs.lemmas.Bool.{cases_Bool, cond-true, cond-false}
use Rattle.order.proofs.Finds.{Contains-first, Contains-later}

-- what passes is kept
pub kept_there : (p : ℕ → Bool) (xs : List ℕ) (x : ℕ) → Contains xs x → p x ≡ true → Contains (filter p xs) x
kept_there p [] x there does = absurd (omega (arith, there.1))
kept_there p (y ∷ ys) x (zero, lt, is) does =
    subst (λ (zs : List ℕ). Contains zs x) (sym (cond-true (p y) (y ∷ filter p ys) (filter p ys) (ap p is ∙ does))) (subst (λ (z : ℕ). Contains (y ∷ filter p ys) z) is (Contains-first y (filter p ys)))
kept_there p (y ∷ ys) x (suc k, lt, is) does =
    let rest : Contains (filter p ys) x = kept_there p ys x (k, omega arith, is) does in
    elim (cases_Bool (p y)) [
      | inl here ↦ subst (λ (zs : List ℕ). Contains zs x) (sym (cond-true (p y) (y ∷ filter p ys) (filter p ys) here)) (Contains-later y x (filter p ys) rest)
      | inr fails ↦ subst (λ (zs : List ℕ). Contains zs x) (sym (cond-false (p y) (y ∷ filter p ys) (filter p ys) fails)) rest
    ]

-- no more than there were
pub kept_few : (p : ℕ → Bool) (xs : List ℕ) → length (filter p xs) ≤ length xs
kept_few p [] = omega arith
kept_few p (x ∷ xs) = elim (cases_Bool (p x)) [
  | inl here ↦
      let is : length (filter p (x ∷ xs)) ≡ suc (length (filter p xs)) = ap (λ (ys : List ℕ). length ys) (cond-true (p x) (x ∷ filter p xs) (filter p xs) here) in
      omega (arith, is, kept_few p xs)
  | inr fails ↦
      let is : length (filter p (x ∷ xs)) ≡ length (filter p xs) = ap (λ (ys : List ℕ). length ys) (cond-false (p x) (x ∷ filter p xs) (filter p xs) fails) in
      omega (arith, is, kept_few p xs)
]

-- where something is picked of each, it is what a function gives
pub all_picked : {X : Type 0} (f : ℕ → Option X) (g : ℕ → X) (xs : List ℕ) → ((k : ℕ) → k < length xs → f (get_or xs k 0) ≡ Some (g (get_or xs k 0))) → filter_map f xs ≡ map g xs
all_picked f g [] each = refl
all_picked {X} f g (x ∷ xs) each =
    ap (λ (o : Option X). cons_option o (filter_map f xs)) (each 0 (omega arith)) ∙ ap (λ (ys : List X). g x ∷ ys) (all_picked f g xs (λ k lt. each (suc k) (omega arith)))

pub all_passing : (p : ℕ → Bool) (xs : List ℕ) → ((k : ℕ) → k < length xs → p (get_or xs k 0) ≡ true) → list_all p xs ≡ true
all_passing p [] each = refl
all_passing p (x ∷ xs) each = ap (λ (b : Bool). b && list_all p xs) (each 0 (omega arith)) ∙ all_passing p xs (λ k lt. each (suc k) (omega arith))
