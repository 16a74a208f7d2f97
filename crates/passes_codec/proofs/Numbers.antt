-- The numbers of texts and lists of a table.
use Rattle.std.proofs.Common.{◌≡◌, ◌≢◌, ℕ, zero, suc, ◌+◌, ◌<◌, ◌≤◌, Bool, true, false, nat_lt, List, [], ◌∷◌, length, get_or, cond, Option, Some, None, refl, sym, ap, ◌∙◌, arith, inl, inr}
use Rattle.std.specs.Prelude.{All, AllPairs, Contains}
use Rattle.std.specs.Bool.{Decides}
use Rattle.std.specs.List.{list_any, position, position_or_len, remove}
use Rattle.std.proofs.lemmas.Bool.{cases_lt}
use Rattle.std.proofs.lemmas.Bool.Decides.{nat_tests}
use Rattle.std.proofs.lemmas.List.{get_or_default}
use Rattle.std.proofs.lemmas.List.Edits.{get_or-remove_above, get_or-remove_below, length-remove}
use Rattle.std.proofs.lemmas.List.Elements.{All-head, All-tail}
use Rattle.std.proofs.lemmas.List.Folds.{list_any_none}
use Rattle.std.proofs.lemmas.List.Quantifiers.{position-Some}
use Rattle.std.proofs.lemmas.List.Sums.{fails_before_first}
use Rattle.std.proofs.lemmas.Option.{none-some}

module _ {X : Type 0} (test : X → X → Bool) (each : (a b : X) → Decides (test a b) (a ≡ b)) (xs : List X) (x : X) where
  abbrev rank : ℕ
  rank = position_or_len (λ other. test other x) xs

  -- what has a number is there at this number
  pub at_number : (number : ℕ) (d : X) → position (λ other. test other x) xs ≡ Some number → (number < length xs) × (get_or xs number d ≡ x)
  at_number number d e = let p = position-Some (λ other. test other x) xs number d e in (p.0, (each (get_or xs number d) x).0 p.1)

  past : (b : Bool) → nat_lt rank (length xs) ≡ b → cond b (Some rank) None ≡ None → length xs ≤ rank
  past true e none = absurd (none-some rank (sym none))
  past false e none = grind (arith, nat_tests)

  turned : (y : X) → test y x ≡ false → (b : Bool) → test x y ≡ b → b ≡ false
  turned y other true e = let same : test y x ≡ true = (each y x).1 (sym ((each x y).0 e)) in absurd cc
  turned y other false e = refl

  differs : length xs ≤ rank → All (λ y. test x y ≡ false) xs
  differs many k d low =
      let y : X = get_or xs k d in
      let fails : test y x ≡ false = fails_before_first (λ other. test other x) xs k d (omega (arith, low, many)) in
      turned y fails (test x y) refl

  -- what has no number is not there
  pub none_there : position (λ other. test other x) xs ≡ None → list_any (test x) xs ≡ false
  none_there e = list_any_none (test x) xs (differs (past (nat_lt rank (length xs)) refl e))

-- ## No more distinct things than there are

without : {X : Type 0} (xs : List X) (x y : X) (k : ℕ) → k < length xs → get_or xs k x ≡ x → y ≢ x → Contains xs y → Contains (remove xs k) y
without xs x y k low here other (j, within, is) =
    elim (cases_lt j k) [
      | inl before ↦ (j, omega (arith, length-remove xs k low, before, low), get_or-remove_below xs k y j before low ∙ is)
      | inr after ↦ by j within is after
    ]
  where
    by : (j : ℕ) → j < length xs → get_or xs j y ≡ y → k ≤ j → Contains (remove xs k) y
    by zero within is after = absurd (other (sym is ∙ get_or_default xs zero y x within ∙ ap (λ (n : ℕ). get_or xs n x) (omega (arith, after)) ∙ here))
    by (suc j) within is after = elim (cases_lt k (suc j)) [
      | inl later ↦ (j, omega (arith, length-remove xs k low, within), get_or-remove_above xs k y j (omega (arith, later)) low ∙ ap (λ (n : ℕ). get_or xs n y) (omega arith) ∙ is)
      | inr same ↦ absurd (other (sym is ∙ get_or_default xs (suc j) y x within ∙ ap (λ (n : ℕ). get_or xs n x) (omega (arith, after, same)) ∙ here))
    ]

-- distinct things that are all among others are at most as many as these
pub no_more : {X : Type 0} (xs ys : List X) → AllPairs (λ (a b : X). a ≢ b) xs → All (Contains ys) xs → length xs ≤ length ys
no_more [] ys once all = omega arith
no_more {X} (x ∷ xs) ys once all =
    let has : Contains ys x = All-head (Contains ys) x xs all in
    let k : ℕ = has.0 in
    let others : All (Contains (remove ys k)) xs = λ i d low.
    without ys x (get_or xs i d) k has.1 has.2 (λ same. once 0 (suc i) d (omega arith) (omega (arith, low)) (sym same)) (All-tail (Contains ys) x xs all i d low) in
    let fewer : length xs ≤ length (remove ys k) = no_more xs (remove ys k) (λ i j d a b. once (suc i) (suc j) d (omega (arith, a)) (omega (arith, b))) others in
    omega (arith, fewer, length-remove ys k has.1)
