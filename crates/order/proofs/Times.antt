-- How often a number occurs in a list, one item on, and how much of what a file depends on isn't done.
use Rattle.std.proofs.Common.{◌≡◌, ℕ, zero, suc, ◌+◌, ◌<◌, ◌==◌, Bool, true, false, not, ◌&&◌, ◌||◌, cond, ◌≢◌, List, [], ◌∷◌, ◌++◌, length, get_or, take, refl, sym, ap, ◌∙◌, arith, inl, inr}
use Rattle.std.specs.Prelude.{count_by}
use Rattle.std.specs.List.{list_all}
use Rattle.std.proofs.Math.ListN.{set}
use Rattle.std.proofs.lemmas.Bool.{cases_eq, cases_Bool, cond-true, cond-false, eq-eqb, ne_eqb}
use Rattle.std.proofs.lemmas.List.Sums.{fold_more, sum_by_push, sum_by-cons}
use Rattle.std.proofs.lemmas.List.{get_or-set_other}
use Rattle.std.proofs.lemmas.Grind.{get_or-set_at}
use Rattle.order.specs.Counts.{times, undone, is_ready}

pub count_more : (p : ℕ → Bool) (xs : List ℕ) (i : ℕ) → i < length xs → count_by p (take (i + 1) xs) ≡ count_by p (take i xs) + cond (p (get_or xs i 0)) 1 0
count_more p xs i lt = fold_more (λ (a x : ℕ). a + cond (p x) 1 0) 0 xs i 0 lt

pub times_more : (n : ℕ) (xs : List ℕ) (i : ℕ) → i < length xs → times n (take (i + 1) xs) ≡ times n (take i xs) + cond (get_or xs i 0 == n) 1 0
unfolding times
times_more n xs i lt = count_more (λ x. x == n) xs i lt

pub times_none : (n : ℕ) → times n [] ≡ 0
unfolding times
times_none n = refl

pub times_push : (n : ℕ) (xs : List ℕ) (x : ℕ) → times n (xs ++ x ∷ []) ≡ times n xs + cond (x == n) 1 0
unfolding times
times_push n xs x = sum_by_push (λ y. cond (y == n) 1 0) xs x

pub count-cons : (p : ℕ → Bool) (x : ℕ) (xs : List ℕ) → count_by p (x ∷ xs) ≡ cond (p x) 1 0 + count_by p xs
count-cons p x xs = sum_by-cons (λ y. cond (p y) 1 0) x xs

-- the same numbers pass two tests that agree on a list
pub count_same : (p q : ℕ → Bool) → ((x : ℕ) → p x ≡ q x) → (xs : List ℕ) → count_by p xs ≡ count_by q xs
count_same p q same [] = refl
count_same p q same (x ∷ xs) =
    let here : cond (p x) 1 0 ≡ cond {A = ℕ} (q x) 1 0 = ap (λ (b : Bool). cond {A = ℕ} b 1 0) (same x) in
    omega (arith, count-cons p x xs, count-cons q x xs, count_same p q same xs, here)

pub plus_none : (b : Bool) (x t : ℕ) → t ≡ 0 → x ≡ x + cond b t 0
plus_none true x t none = omega arith
plus_none false x t none = omega arith

-- one more dependency is noted
pub added_more : (d a : Bool) (new old before t more : ℕ) → new ≡ old + cond d (cond a 1 0) 0 → old ≡ before + cond a t 0 → more ≡ t + cond d 1 0 → new ≡ before + cond a more 0
added_more true true new old before t more x y z = omega arith
added_more true false new old before t more x y z = omega arith
added_more false true new old before t more x y z = omega arith
added_more false false new old before t more x y z = omega arith

-- a list of users is longer by one
pub added_one : (users : List (List ℕ)) (dep at : ℕ) (list : List ℕ) → dep < length users → list ≡ get_or users dep [] ++ at ∷ [] → (other k : ℕ)
    → times k (get_or (set users dep list) other []) ≡ times k (get_or users other []) + cond (dep == other) (cond (at == k) 1 0) 0
added_one users dep at list lt is other k =
    elim (cases_eq other dep) [
      | inl e ↦
          let here : times k (get_or (set users dep list) other []) ≡ times k (get_or users dep [] ++ at ∷ []) = ap (times k) (get_or-set_at users dep other list [] e lt ∙ is) in
          let there : times k (get_or users other []) ≡ times k (get_or users dep []) = ap (λ i. times k (get_or users i [])) e in
          let more : cond {A = ℕ} (dep == other) (cond (at == k) 1 0) 0 ≡ cond (at == k) 1 0 = cond-true (dep == other) (cond (at == k) 1 0) 0 (eq-eqb dep other (sym e)) in
          omega (arith, times_push k (get_or users dep []) at)
      | inr ne ↦
          let here : times k (get_or (set users dep list) other []) ≡ times k (get_or users other []) = ap (times k) (get_or-set_other users dep other list [] ne) in
          let more : cond {A = ℕ} (dep == other) (cond (at == k) 1 0) 0 ≡ 0 = cond-false (dep == other) (cond (at == k) 1 0) 0 (ne_eqb dep other (λ e. ne (sym e))) in
          omega arith
    ]

-- one more empty list
pub none_pushed : (at : ℕ) (users : List (List ℕ)) → ((dep : ℕ) → times at (get_or users dep []) ≡ 0) → (dep : ℕ) → times at (get_or (users ++ [] ∷ []) dep []) ≡ 0
none_pushed at [] none zero = times_none at
none_pushed at [] none (suc dep) = times_none at
none_pushed at (list ∷ users) none zero = none zero
none_pushed at (list ∷ users) none (suc dep) = none_pushed at users (λ d. none (suc d)) dep

-- what is missing when one file more is done
count_drop : (p q : ℕ → Bool) (at : ℕ) → p at ≡ true → q at ≡ false → ((x : ℕ) → x ≢ at → q x ≡ p x) → (xs : List ℕ) → count_by q xs + count_by (λ x. x == at) xs ≡ count_by p xs
count_drop p q at does fails others [] = refl
count_drop p q at does fails others (x ∷ xs) =
    let rest : count_by q xs + count_by (λ y. y == at) xs ≡ count_by p xs = count_drop p q at does fails others xs in
    elim (cases_eq x at) [
      | inl e ↦
          let a : cond {A = ℕ} (p x) 1 0 ≡ 1 = cond-true (p x) 1 0 (ap p e ∙ does) in
          let b : cond {A = ℕ} (q x) 1 0 ≡ 0 = cond-false (q x) 1 0 (ap q e ∙ fails) in
          let d : cond {A = ℕ} (x == at) 1 0 ≡ 1 = cond-true (x == at) 1 0 (eq-eqb x at e) in
          omega (arith, count-cons p x xs, count-cons q x xs, count-cons (λ y. y == at) x xs)
      | inr ne ↦
          let a : cond (q x) 1 0 ≡ cond {A = ℕ} (p x) 1 0 = ap (λ (t : Bool). cond {A = ℕ} t 1 0) (others x ne) in
          let d : cond {A = ℕ} (x == at) 1 0 ≡ 0 = cond-false (x == at) 1 0 (ne_eqb x at ne) in
          omega (arith, count-cons p x xs, count-cons q x xs, count-cons (λ y. y == at) x xs)
    ]

or_here : (m e : Bool) → e ≡ true → (m || e) ≡ true
or_here true e does = refl
or_here false e does = does

or_other : (m e : Bool) → e ≡ false → (m || e) ≡ m
or_other true e fails = refl
or_other false e fails = fails

pub undone_more : (old new : ℕ → Bool) (file : ℕ) → old file ≡ false → ((k : ℕ) → new k ≡ (old k || (file == k))) → (deps : List ℕ) → undone new deps + times file deps ≡ undone old deps
unfolding undone times
undone_more old new file was grown deps =
    count_drop (λ dep. not (old dep)) (λ dep. not (new dep)) file (ap not was) (ap not (grown file ∙ or_here (old file) (file == file) (eq-eqb file file refl)))
    (λ x ne. ap not (grown x ∙ or_other (old x) (file == x) (ne_eqb file x (λ e. ne (sym e))))) deps

-- all pass where none is counted that fails
all_by_count : (p : ℕ → Bool) (xs : List ℕ) → list_all p xs ≡ (count_by (λ x. not (p x)) xs == 0)
all_by_count p [] = refl
all_by_count p (x ∷ xs) = elim (cases_Bool (p x)) [
  | inl does ↦
      let a : cond {A = ℕ} (not (p x)) 1 0 ≡ 0 = cond-false (not (p x)) 1 0 (ap not does) in
      let e : count_by (λ y. not (p y)) (x ∷ xs) ≡ count_by (λ y. not (p y)) xs = omega (arith, count-cons (λ y. not (p y)) x xs) in
      ap (λ b. b && list_all p xs) does ∙ all_by_count p xs ∙ ap (λ n. n == 0) (sym e)
  | inr fails ↦
      let a : cond {A = ℕ} (not (p x)) 1 0 ≡ 1 = cond-true (not (p x)) 1 0 (ap not fails) in
      ap (λ b. b && list_all p xs) fails ∙ sym (ne_eqb (count_by (λ y. not (p y)) (x ∷ xs)) 0 (λ e. omega (arith, count-cons (λ y. not (p y)) x xs)))
]

pub ready_when : (deps : ℕ → List ℕ) (waits done : ℕ → Bool) (file : ℕ) → is_ready deps waits done file ≡ (waits file && (undone done (deps file) == 0))
unfolding is_ready undone
ready_when deps waits done file = ap (λ b. waits file && b) (all_by_count done (deps file))

pub times_of_none : (file : ℕ) (list : List ℕ) → list ≡ [] → times file list ≡ 0
times_of_none file list none = ap (times file) none ∙ times_none file

pub undone_none : (done : ℕ → Bool) → undone done [] ≡ 0
unfolding undone
undone_none done = refl

-- all are counted where none is done
pub undone_all : (deps : List ℕ) → undone (λ file. false) deps ≡ length deps
unfolding undone
undone_all [] = refl
undone_all (dep ∷ deps) = omega (arith, count-cons (λ file. not false) dep deps, undone_all deps)
