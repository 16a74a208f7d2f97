-- The first element that passes a test, and the first number below another that does. The numbers below one rise.
use Rattle.std.proofs.Common.{◌≡◌, ℕ, zero, suc, ◌+◌, ◌<◌, Bool, true, false, cond, not, ◌&&◌, Option, Some, None, List, [], ◌∷◌, ◌++◌, length, get_or, refl, sym, ap, ◌∙◌, arith, inl, inr}
use Rattle.std.specs.Prelude.{All, Contains, filter}
use Rattle.std.specs.List.{find, list_all}
use Rattle.std.specs.List.Sorted.{IsStrictlyIncreasing}
use Rattle.std.specs.Option.{option_or}
use Rattle.std.proofs.lemmas.Bool.{cases_Bool, cases_lt, cond-true, cond-false}
use Rattle.std.proofs.lemmas.List.Elements.{filter-append}
use Rattle.std.proofs.lemmas.List.Folds.{find-append}
use Rattle.base.specs.PresentGraph.{below}
use Rattle.base.proofs.Below.{length-below, get_or-below}

pub Contains-later : {X : Type 0} (x y : X) (xs : List X) → Contains xs y → Contains (x ∷ xs) y
Contains-later x y xs there = (suc there.0, omega (arith, there.1), there.2)

pub Contains-first : {X : Type 0} (x : X) (xs : List X) → Contains (x ∷ xs) x
Contains-first x xs = (0, omega arith, refl)

same_some : {X : Type 0} (x y : X) → ◌≡◌ {A = Option X} (Some x) (Some y) → x ≡ y
same_some x y e = cc

no_some : {X : Type 0} (x : X) → ◌≡◌ {A = Option X} None (Some x) → ⊥
no_some x e = cc

-- what is found passes, and is an element
pub found_passes : {X : Type 0} (p : X → Bool) (xs : List X) (x : X) → find p xs ≡ Some x → p x ≡ true
found_passes p [] x h = absurd (no_some x h)
found_passes {X} p (y ∷ ys) x h =
    elim (cases_Bool (p y)) [
      | inl does ↦ ap p (sym (same_some y x (sym (cond-true (p y) (Some y) (find p ys) does) ∙ h))) ∙ does
      | inr fails ↦ found_passes p ys x (sym (cond-false (p y) (Some y) (find p ys) fails) ∙ h)
    ]

pub found_within : {X : Type 0} (p : X → Bool) (xs : List X) (x : X) → find p xs ≡ Some x → Contains xs x
found_within p [] x h = absurd (no_some x h)
found_within {X} p (y ∷ ys) x h =
    elim (cases_Bool (p y)) [
      | inl does ↦ (0, omega arith, same_some y x (sym (cond-true (p y) (Some y) (find p ys) does) ∙ h))
      | inr fails ↦ Contains-later y x ys (found_within p ys x (sym (cond-false (p y) (Some y) (find p ys) fails) ∙ h))
    ]

some_found : {X : Type 0} (x : X) (o : Option X) → ◌≡◌ {A = Option X} (Some x) None → ⊥
some_found x o e = cc

-- where nothing is found nothing passes
pub none_passes : {X : Type 0} (p : X → Bool) (xs : List X) → find p xs ≡ None → (x : X) → Contains xs x → p x ≡ false
none_passes p [] h x (k, lt, is) = absurd (omega arith)
none_passes {X} p (y ∷ ys) h x (zero, lt, is) =
    elim (cases_Bool (p y)) [
      | inl does ↦ absurd (some_found y None (sym (cond-true (p y) (Some y) (find p ys) does) ∙ h))
      | inr fails ↦ ap p (sym is) ∙ fails
    ]
none_passes {X} p (y ∷ ys) h x (suc k, lt, is) =
    elim (cases_Bool (p y)) [
      | inl does ↦ absurd (some_found y None (sym (cond-true (p y) (Some y) (find p ys) does) ∙ h))
      | inr fails ↦ none_passes p ys (sym (cond-false (p y) (Some y) (find p ys) fails) ∙ h) x (k, omega arith, is)
    ]

-- where nothing that fails is found all pass
pub all_pass : {X : Type 0} (p : X → Bool) (xs : List X) → find (λ x. not (p x)) xs ≡ None → list_all p xs ≡ true
all_pass p [] h = refl
all_pass {X} p (y ∷ ys) h =
    elim (cases_Bool (p y)) [
      | inl does ↦ ap (λ (b : Bool). b && list_all p ys) does ∙ all_pass p ys (sym (cond-false (not (p y)) (Some y) (find (λ x. not (p x)) ys) (ap not does)) ∙ h)
      | inr fails ↦ absurd (some_found y None (sym (cond-true (not (p y)) (Some y) (find (λ x. not (p x)) ys) (ap not fails)) ∙ h))
    ]

-- the first element that passes, by its rank
pub find_at_rank : {X : Type 0} (p : X → Bool) (xs : List X) (i : ℕ) (d : X) → ((k : ℕ) → k < i → p (get_or xs k d) ≡ false) → i < length xs → p (get_or xs i d) ≡ true → find p xs ≡ Some (get_or xs i d)
find_at_rank p [] i d low lt at = absurd (omega arith)
find_at_rank {X} p (y ∷ ys) zero d low lt at = cond-true (p y) (Some y) (find p ys) at
find_at_rank {X} p (y ∷ ys) (suc i) d low lt at = cond-false (p y) (Some y) (find p ys) (low 0 (omega arith)) ∙ find_at_rank p ys i d (λ k l. low (suc k) (omega arith)) (omega arith) at

pub find_nowhere : {X : Type 0} (p : X → Bool) (xs : List X) (d : X) → ((k : ℕ) → k < length xs → p (get_or xs k d) ≡ false) → find p xs ≡ None
find_nowhere p [] d fails = refl
find_nowhere {X} p (y ∷ ys) d fails = cond-false (p y) (Some y) (find p ys) (fails 0 (omega arith)) ∙ find_nowhere p ys d (λ k l. fails (suc k) (omega arith))

-- ## Numbers below another

pub in_below : (n k : ℕ) → k < n → Contains (below n) k
in_below n k lt = (k, omega (arith, length-below n), get_or-below n k k lt)

pub below_bounded : (n k : ℕ) → Contains (below n) k → k < n
below_bounded n k there = let low : there.0 < n = omega (arith, there.1, length-below n) in omega (arith, sym (get_or-below n there.0 k low) ∙ there.2)

-- none of the numbers passes
pub find_none : (p : ℕ → Bool) (n : ℕ) → ((k : ℕ) → k < n → p k ≡ false) → find p (below n) ≡ None
unfolding below
find_none p zero fails = refl
find_none p (suc n) fails =
    find-append p (below n) (n ∷ []) ∙ ap (λ (o : Option ℕ). option_or o (find p (n ∷ []))) (find_none p n (λ k lt. fails k (omega arith))) ∙ cond-false (p n) (Some n) None (fails n (omega arith))

-- the first number that passes
pub find_first : (p : ℕ → Bool) (n first : ℕ) → ((k : ℕ) → k < first → p k ≡ false) → first < n → p first ≡ true → find p (below n) ≡ Some first
unfolding below
find_first p zero first low lt at = absurd (omega arith)
find_first p (suc n) first low lt at =
    elim (cases_lt first n) [
      | inl l ↦ find-append p (below n) (n ∷ []) ∙ ap (λ (o : Option ℕ). option_or o (find p (n ∷ []))) (find_first p n first low l at)
      | inr l ↦
          let e : n ≡ first = omega arith in
          find-append p (below n) (n ∷ []) ∙ ap (λ (o : Option ℕ). option_or o (find p (n ∷ []))) (find_none p n (λ k lt. low k (omega arith)))
          ∙ cond-true (p n) (Some n) None (ap p e ∙ at) ∙ ap (λ (k : ℕ). Some k) e
    ]

-- ## The numbers below one

pub below_rises : (n : ℕ) → IsStrictlyIncreasing (below n)
below_rises n k lt =
    let a : k < n = omega (arith, length-below n) in
    let b : k + 1 < n = omega (arith, length-below n) in
    rw (get_or-below n k 0 a, get_or-below n (k + 1) 0 b) (omega arith)

pub below_all : (n : ℕ) → All (λ k. k < n) (below n)
below_all n k d lt = let a : k < n = omega (arith, length-below n) in rw (get_or-below n k d a) a

pub filter_below : (p q : ℕ → Bool) (n : ℕ) → ((k : ℕ) → k < n → p k ≡ q k) → filter p (below n) ≡ filter q (below n)
unfolding below
filter_below p q zero same = refl
filter_below p q (suc n) same =
    filter-append p (below n) (n ∷ []) ∙ ap (λ (xs : List ℕ). xs ++ filter p (n ∷ [])) (filter_below p q n (λ k lt. same k (omega arith)))
    ∙ ap (λ (b : Bool). filter q (below n) ++ cond b (n ∷ []) []) (same n (omega arith)) ∙ sym (filter-append q (below n) (n ∷ []))
