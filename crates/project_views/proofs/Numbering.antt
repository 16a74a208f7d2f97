-- Rising positions, and the number of each among them.
use Rattle.std.proofs.Common.{◌≡◌, ℕ, zero, suc, ◌+◌, ◌<◌, ◌≤◌, eqb, List, [], ◌∷◌, length, map, get_or, set, drop, drop-cons, sym, ap, subst, ◌∙◌, arith, inl, inr}
use Rattle.std.specs.Prelude.{All, Contains, sum_by}
use Rattle.std.specs.List.Sorted.{IsStrictlyIncreasing}
use Rattle.std.proofs.lemmas.Bool.{cases_lt, eq-eqb, ne_eqb}
use Rattle.std.proofs.lemmas.List.{get_or_default, get_or-set_same, get_or-set_other}
use Rattle.std.proofs.lemmas.List.Sums.{position_or_len_is, sum_by-cons, sum_by-take-drop}
use Rattle.project_views.proofs.Rising.{before_later}
use Rattle.base.specs.View.{rank_in}
use Rattle.project_views.specs.Numbers.{IsNumbered}

module _ (positions : List ℕ) (rising : IsStrictlyIncreasing positions) where
  -- each position has its own number
  pub rank_at : (k d : ℕ) → k < length positions → rank_in positions (get_or positions k d) ≡ k
  rank_at k d lt =
      let same : get_or positions k d ≡ get_or positions k 0 = get_or_default positions k d 0 lt in
      position_or_len_is (λ other. eqb other (get_or positions k d)) positions k 0 (omega arith)
      (λ j low. let less : get_or positions j 0 < get_or positions k 0 = before_later positions rising j k low lt in ne_eqb (get_or positions j 0) (get_or positions k d) (λ e. omega arith))
      (λ l. eq-eqb (get_or positions k 0) (get_or positions k d) (sym same))

  pub rank_of : (x : ℕ) (in_it : Contains positions x) → rank_in positions x ≡ in_it.0
  rank_of x in_it = ap (rank_in positions) (sym in_it.2) ∙ rank_at in_it.0 x in_it.1

  pub rank_within : (x : ℕ) → Contains positions x → rank_in positions x < length positions
  rank_within x in_it = rw (rank_of x in_it) in_it.1

  pub get_or-rank : (x d : ℕ) → Contains positions x → get_or positions (rank_in positions x) d ≡ x
  get_or-rank x d in_it = ap (λ (k : ℕ). get_or positions k d) (rank_of x in_it) ∙ get_or_default positions in_it.0 d x in_it.1 ∙ in_it.2

  -- a lower position has a lower number
  pub rank_lower : (x y : ℕ) → Contains positions x → Contains positions y → x < y → rank_in positions x < rank_in positions y
  rank_lower x y in_x in_y less =
      let at_x : get_or positions in_x.0 0 ≡ x = get_or_default positions in_x.0 0 x in_x.1 ∙ in_x.2 in
      let at_y : get_or positions in_y.0 0 ≡ y = get_or_default positions in_y.0 0 y in_y.1 ∙ in_y.2 in
      let low : in_x.0 < in_y.0 = elim (cases_lt in_x.0 in_y.0) [
        | inl l ↦ l
        | inr high ↦ elim (cases_lt in_y.0 in_x.0) [
          | inl l ↦ absurd (omega (arith, before_later positions rising in_y.0 in_x.0 l in_x.1))
          | inr le ↦ let e : in_x.0 ≡ in_y.0 = omega arith in absurd (omega (arith, ap (λ (k : ℕ). get_or positions k 0) e))
        ]
      ] in
      rw (rank_of x in_x, rank_of y in_y) low

sum_drop : {X : Type 0} (f : X → ℕ) (xs : List X) (low p : ℕ) → low ≤ p → sum_by f (drop p xs) ≤ sum_by f (drop low xs)
sum_drop f xs zero p le = omega (arith, sum_by-take-drop f xs p)
sum_drop f xs (suc low) zero le = absurd (omega arith)
sum_drop f [] (suc low) (suc p) le = omega arith
sum_drop f (x ∷ xs) (suc low) (suc p) le = sum_drop f xs low p (omega arith)

rising_rest : (p : ℕ) (ps : List ℕ) → IsStrictlyIncreasing (p ∷ ps) → IsStrictlyIncreasing ps
rising_rest p ps rising k lt = let same : suc k + 1 ≡ suc (k + 1) = omega arith in subst (λ (n : ℕ). get_or ps k 0 < get_or (p ∷ ps) n 0) same (rising (suc k) (omega arith))

-- the sum over some items, each once, is at most the sum over all
sum_from : {X : Type 0} (f : X → ℕ) (xs : List X) (d : X) (low : ℕ) (positions : List ℕ) → ((k : ℕ) → k < length positions → low ≤ get_or positions k 0) → IsStrictlyIncreasing positions → ((k : ℕ) → k < length positions → get_or positions k 0 < length xs)
    → sum_by f (map (λ p. get_or xs p d) positions) ≤ sum_by f (drop low xs)
sum_from f xs d low [] above rising within = omega arith
sum_from {X} f xs d low (p ∷ ps) above rising within =
    let lt : p < length xs = within 0 (omega arith) in
    let more : sum_by f (map (λ p. get_or xs p d) ps) ≤ sum_by f (drop (suc p) xs) =
    sum_from f xs d (suc p) ps (λ k l. omega (arith, before_later (p ∷ ps) rising 0 (suc k) (omega arith) (omega arith))) (rising_rest p ps rising) (λ k l. within (suc k) (omega arith)) in
    let here : sum_by f (drop p xs) ≡ f (get_or xs p d) + sum_by f (drop (suc p) xs) = ap (sum_by f) (drop-cons xs p d lt) ∙ sum_by-cons f (get_or xs p d) (drop (suc p) xs) in
    let rest : sum_by f (drop p xs) ≤ sum_by f (drop low xs) = sum_drop f xs low p (above 0 (omega arith)) in
    let all : sum_by f (map (λ p. get_or xs p d) (p ∷ ps)) ≡ f (get_or xs p d) + sum_by f (map (λ p. get_or xs p d) ps) = sum_by-cons f (get_or xs p d) (map (λ p. get_or xs p d) ps) in
    omega arith

pub sum_of_part : {X : Type 0} (f : X → ℕ) (xs : List X) (d : X) (positions : List ℕ) → IsStrictlyIncreasing positions → All (λ p. p < length xs) positions → sum_by f (map (λ p. get_or xs p d) positions) ≤ sum_by f xs
sum_of_part f xs d positions rising within = sum_from f xs d 0 positions (λ k l. omega arith) rising (λ k l. within k 0 l)

-- one more position has its number in the table
pub numbered_more : (table positions : List ℕ) (n : ℕ) → IsStrictlyIncreasing positions → All (λ p. p < length table) positions → n < length positions → IsNumbered table positions n → IsNumbered (set table (get_or positions n 0) n) positions (n + 1)
numbered_more table positions n rising within lt numbered rank low =
    elim (cases_lt rank n) [
      | inl l ↦
          let less : get_or positions rank 0 < get_or positions n 0 = before_later positions rising rank n l lt in
          get_or-set_other table (get_or positions n 0) (get_or positions rank 0) n 0 (λ e. omega arith) ∙ numbered rank l
      | inr l ↦
          let same : rank ≡ n = omega arith in
          ap (λ (k : ℕ). get_or (set table (get_or positions n 0) n) (get_or positions k 0) 0) same ∙ get_or-set_same table (get_or positions n 0) n 0 (within n 0 lt) ∙ sym same
    ]
