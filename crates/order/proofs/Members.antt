-- What is among the files that were taken.
use Rattle.std.proofs.Common.{◌≡◌, ◌≢◌, ℕ, suc, ◌+◌, ◌<◌, ◌==◌, Bool, true, false, not, ◌||◌, List, [], ◌∷◌, ◌++◌, length, get_or, refl, sym, ap, ◌∙◌, arith, inl, inr}
use Rattle.std.specs.Prelude.{Contains}
use Rattle.std.proofs.lemmas.Bool.{cases_eq, cond-true, cond-false, eq-eqb, ne_eqb, eqb-true, false≢true}
use Rattle.std.proofs.lemmas.Cmp.{nat_eq_equiv}
use Rattle.std.proofs.lemmas.Map.Views.{Contains-from_any, list_any-from_Contains}
use Rattle.std.proofs.lemmas.List.Folds.{list_any-append}
use Rattle.base.specs.View.{rank_in}
use Rattle.order.specs.BuildOrder.{has_taken}

or_false : (x : Bool) → (x || false) ≡ x
or_false true = refl
or_false false = refl

pub taken_contains : (taken : List ℕ) (file : ℕ) → has_taken taken file ≡ true → Contains taken file
taken_contains taken file h = Contains-from_any (λ x y e. eqb-true x y e) file taken h

pub contains_taken : (taken : List ℕ) (file : ℕ) → Contains taken file → has_taken taken file ≡ true
contains_taken taken file there = list_any-from_Contains nat_eq_equiv file taken there

-- after one more was taken
pub taken_more : (taken : List ℕ) (more file : ℕ) → has_taken (taken ++ more ∷ []) file ≡ (has_taken taken file || (file == more))
taken_more taken more file = list_any-append (λ other. file == other) taken (more ∷ []) ∙ ap (λ (b : Bool). has_taken taken file || b) (or_false (file == more))

pub taken_other : (taken : List ℕ) (more file : ℕ) → file ≢ more → has_taken (taken ++ more ∷ []) file ≡ has_taken taken file
taken_other taken more file ne = taken_more taken more file ∙ ap (λ (b : Bool). has_taken taken file || b) (ne_eqb file more ne) ∙ or_false (has_taken taken file)

or_yes : (x e : Bool) → e ≡ true → (x || e) ≡ true
or_yes true e does = refl
or_yes false e does = does

pub taken_here : (taken : List ℕ) (more file : ℕ) → file ≡ more → has_taken (taken ++ more ∷ []) file ≡ true
taken_here taken more file e = taken_more taken more file ∙ or_yes (has_taken taken file) (file == more) (eq-eqb file more e)

-- the rank of a file that was passed
pub rank_within : (passed : List ℕ) (file : ℕ) → has_taken passed file ≡ true → rank_in passed file < length passed
rank_within [] file h = absurd (false≢true h)
rank_within (x ∷ xs) file h =
    elim (cases_eq x file) [
      | inl e ↦ let here : rank_in (x ∷ xs) file ≡ 0 = cond-false (not (x == file)) (1 + rank_in xs file) 0 (ap not (eq-eqb x file e)) in omega arith
      | inr ne ↦
          let there : rank_in (x ∷ xs) file ≡ 1 + rank_in xs file = cond-true (not (x == file)) (1 + rank_in xs file) 0 (ap not (ne_eqb x file ne)) in
          let later : has_taken xs file ≡ true = sym (ap (λ (b : Bool). b || has_taken xs file) (ne_eqb file x (λ e. ne (sym e)))) ∙ h in
          omega (arith, rank_within xs file later)
    ]

pub at_rank : (passed : List ℕ) (file d : ℕ) → has_taken passed file ≡ true → get_or passed (rank_in passed file) d ≡ file
at_rank [] file d h = absurd (false≢true h)
at_rank (x ∷ xs) file d h =
    elim (cases_eq x file) [
      | inl e ↦ ap (λ (k : ℕ). get_or (x ∷ xs) k d) (cond-false (not (x == file)) (1 + rank_in xs file) 0 (ap not (eq-eqb x file e))) ∙ e
      | inr ne ↦
          let later : has_taken xs file ≡ true = sym (ap (λ (b : Bool). b || has_taken xs file) (ne_eqb file x (λ e. ne (sym e)))) ∙ h in
          let one_more : 1 + rank_in xs file ≡ suc (rank_in xs file) = omega arith in
          let there : rank_in (x ∷ xs) file ≡ suc (rank_in xs file) = cond-true (not (x == file)) (1 + rank_in xs file) 0 (ap not (ne_eqb x file ne)) ∙ one_more in
          ap (λ (k : ℕ). get_or (x ∷ xs) k d) there ∙ at_rank xs file d later
    ]
