-- Numbers that are counted in another order.
use Rattle.std.proofs.Common.{◌≡◌, ◌≢◌, ℕ, suc, ◌≤◌, Bool, true, List, [], ◌∷◌, length, map, get_or, refl, sym, ap, ◌∙◌, arith, inl, inr}
use Rattle.std.specs.Prelude.{AllPairs, Contains, count_by, filter}
use Rattle.std.proofs.lemmas.Bool.{cases_Bool, cond-true, cond-false, eqb-true}
use Rattle.std.proofs.lemmas.Bool.Decides.{Decides-eqb}
use Rattle.std.proofs.lemmas.Cmp.{nat_eq_equiv}
use Rattle.std.proofs.lemmas.List.{get_or_default}
use Rattle.std.proofs.lemmas.List.Elements.{All-contains, All-filter, filter_passes}
use Rattle.std.proofs.lemmas.List.Kept.{AllPairs-filter}
use Rattle.std.proofs.lemmas.List.Sums.{length-filter}
use Rattle.std.proofs.lemmas.Map.Made.{IsDistinct-from_AllPairs, length-le_from_is_member}
use Rattle.std.proofs.lemmas.Map.Views.{Contains-from_any, list_any-from_Contains}
use Rattle.generated_sources.proofs.Members.{Has, contains_had, same_filter}
use Rattle.generated_laws.proofs.Lists.{kept_there}

-- tests that are the same of each count the same
pub same_counts : (p q : ℕ → Bool) (xs : List ℕ) → ((x : ℕ) → Contains xs x → p x ≡ q x) → count_by p xs ≡ count_by q xs
same_counts p q xs same =
    sym (length-filter p xs) ∙ (ap (λ (ys : List ℕ). length ys) (same_filter p q xs (λ (x : ℕ) (has : Has xs x). same x (contains_had xs x has))) ∙ length-filter q xs)

-- of numbers that a function gives
pub mapped_count : (p : ℕ → Bool) (f : ℕ → ℕ) (xs : List ℕ) → length (filter (λ x. p (f x)) xs) ≡ length (filter p (map f xs))
mapped_count p f [] = refl
mapped_count p f (x ∷ xs) = elim (cases_Bool (p (f x))) [
  | inl here ↦
      ap (λ (ys : List ℕ). length ys) (cond-true (p (f x)) (x ∷ filter (λ y. p (f y)) xs) (filter (λ y. p (f y)) xs) here)
      ∙ (ap suc (mapped_count p f xs) ∙ sym (ap (λ (ys : List ℕ). length ys) (cond-true (p (f x)) (f x ∷ filter p (map f xs)) (filter p (map f xs)) here)))
  | inr fails ↦
      ap (λ (ys : List ℕ). length ys) (cond-false (p (f x)) (x ∷ filter (λ y. p (f y)) xs) (filter (λ y. p (f y)) xs) fails)
      ∙ (mapped_count p f xs ∙ sym (ap (λ (ys : List ℕ). length ys) (cond-false (p (f x)) (f x ∷ filter p (map f xs)) (filter p (map f xs)) fails)))
]

module _ (p : ℕ → Bool) where
  -- among distinct numbers at most as many pass as in a list that contains all of them
  no_more : (xs ys : List ℕ) → AllPairs (λ a b. a ≢ b) xs → ((x : ℕ) → Contains xs x → Contains ys x) → length (filter p xs) ≤ length (filter p ys)
  no_more xs ys distinct among =
      length-le_from_is_member nat_eq_equiv (filter p xs) (filter p ys) (IsDistinct-from_AllPairs Decides-eqb (filter p xs) (AllPairs-filter (λ a b. a ≢ b) p xs distinct)) (λ x has.
      let found : Contains (filter p xs) x = Contains-from_any (λ a b e. eqb-true a b e) x (filter p xs) has in
      let passes : p x ≡ true = All-contains (λ y. p y ≡ true) (filter p xs) x (filter_passes p xs) found in
      let listed : Contains xs x = All-contains (λ y. Contains xs y) (filter p xs) x (All-filter p (λ y. Contains xs y) xs (λ k d lt. (k, lt, get_or_default xs k (get_or xs k d) d lt))) found in
      list_any-from_Contains nat_eq_equiv x (filter p ys) (kept_there p ys x (among x listed) passes))

  pub as_many_pass : (xs ys : List ℕ) → AllPairs (λ a b. a ≢ b) xs → AllPairs (λ a b. a ≢ b) ys → ((x : ℕ) → Contains xs x → Contains ys x) → ((x : ℕ) → Contains ys x → Contains xs x) → length (filter p xs) ≡ length (filter p ys)
  as_many_pass xs ys first second to from = omega (arith, no_more xs ys first to, no_more ys xs second from)
