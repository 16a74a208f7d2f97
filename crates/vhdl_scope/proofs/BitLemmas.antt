-- What a row has after one of its words was written.
use Rattle.std.proofs.Common.{◌≡◌, ◌≢◌, ℕ, zero, suc, ◌∷◌, ◌+◌, ◌*◌, ◌/◌, ◌%◌, ◌^◌, ◌<◌, ◌≤◌, Bool, true, false, ◌||◌, List, [], length, nat_eq, get_or, slice_set, not, below_more, eq-eqb, refl, ap, inl, inr, ◌⊎◌, arith, max, w64, bit_or}
use Rattle.std.specs.Int.{bit_at}
use Rattle.std.proofs.lemmas.Bool.Decides.{eqb_tells, nat_tests}
use Rattle.std.proofs.lemmas.Nat.Bits.{bit_at_or, bit_at-zero, bit_at-lt, bit_at_set_same, bit_at_set_other}
use Rattle.std.proofs.lemmas.List.{get_or_past, set-get_or, get_or-set_same, get_or-set_other}
use Rattle.std.proofs.Math.ListN.{set}
use Rattle.std.proofs.lemmas.Nat.{le_or_l, or_lt}
use Rattle.std.proofs.lemmas.List.Sums.{sum_by-set, sum_by-cons}
use Rattle.std.specs.Int.Bits.{or_zero_r}
use Rattle.std.proofs.lemmas.Bool.{cases_lt}
use Rattle.vhdl_scope.specs.Bits.{row_has, weight, gap}

pub past : (row : List ℕ) (number : ℕ) → length row ≤ number / 64 → row_has row number ≡ false
unfolding row_has
past row number far = rw (get_or_past row (number / 64) 0 far) (rw (bit_at-zero (number % 64)) refl)

either : (a b : ℕ) → a < 2 → b < 2 → nat_eq (max a b) 1 ≡ (nat_eq a 1 || nat_eq b 1)
either a b = grind (arith, nat_tests)

pub joined : (row other : List ℕ) (all : List ℕ) → ((i : ℕ) → get_or all i 0 ≡ bit_or (get_or row i 0) (get_or other i 0)) → (number : ℕ) → row_has all number ≡ (row_has row number || row_has other number)
unfolding row_has
joined row other all is number =
    let at = number / 64 in
    let bit = number % 64 in
    rw (is at) (rw (bit_at_or (get_or row at 0) (get_or other at 0) bit) (either _ _ (bit_at-lt _ _) (bit_at-lt _ _)))

in_word : (w k j : ℕ) → k < 64 → nat_eq (bit_at (bit_or w (1 * 2 ^ k % 18446744073709551616)) j) 1 ≡ (nat_eq j k || nat_eq (bit_at w j) 1)
in_word w k j below = by_index (eqb_tells j k) where
  by_index : ((nat_eq j k ≡ true) × (j ≡ k)) ⊎ ((nat_eq j k ≡ false) × (j ≢ k)) → nat_eq (bit_at (bit_or w (1 * 2 ^ k % 18446744073709551616)) j) 1 ≡ (nat_eq j k || nat_eq (bit_at w j) 1)
  by_index (inl (told, same)) = rw (told, same, bit_at_set_same w64 w k below) refl
  by_index (inr (told, differ)) = rw (told, bit_at_set_other w64 w k below j differ) refl

not_equal : (m n : ℕ) → m ≢ n → nat_eq m n ≡ false
not_equal m n ne = grind (arith, nat_tests)

same_rest : (a b : ℕ) → a / 64 ≡ b / 64 → nat_eq a b ≡ nat_eq (a % 64) (b % 64)
same_rest a b same = by_rest (eqb_tells (a % 64) (b % 64)) where
  by_rest : ((nat_eq (a % 64) (b % 64) ≡ true) × (a % 64 ≡ b % 64)) ⊎ ((nat_eq (a % 64) (b % 64) ≡ false) × (a % 64 ≢ b % 64)) → nat_eq a b ≡ nat_eq (a % 64) (b % 64)
  by_rest (inl (told, rest)) = let whole : a ≡ b = omega arith in rw told (eq-eqb a b whole)
  by_rest (inr (told, rest)) = let whole : a ≢ b = λ e. rest (ap (λ n. n % 64) e) in rw told (not_equal a b whole)

other_word : (a b : ℕ) → a / 64 ≢ b / 64 → nat_eq a b ≡ false
other_word a b differ = let whole : a ≢ b = λ e. differ (ap (λ n. n / 64) e) in not_equal a b whole

pub with_bit : (row : List ℕ) (number : ℕ) → number / 64 < length row → (other : ℕ) → row_has (slice_set row (number / 64) (bit_or (get_or row (number / 64) 0) (1 * 2 ^ (number % 64) % 18446744073709551616))) other ≡ (nat_eq other number || row_has row other)
unfolding row_has
with_bit row number within other = by_word (eqb_tells (other / 64) (number / 64)) where
  word : ℕ
  word = bit_or (get_or row (number / 64) 0) (1 * 2 ^ (number % 64) % 18446744073709551616)

  by_word : ((nat_eq (other / 64) (number / 64) ≡ true) × (other / 64 ≡ number / 64)) ⊎ ((nat_eq (other / 64) (number / 64) ≡ false) × (other / 64 ≢ number / 64)) → nat_eq (bit_at (get_or (set row (number / 64) (bit_or (get_or row (number / 64) 0) (1 * 2 ^ (number % 64) % 18446744073709551616))) (other / 64) 0) (other % 64)) 1 ≡ (nat_eq other number || nat_eq (bit_at (get_or row (other / 64) 0) (other % 64)) 1)
  by_word (inl (told, same)) =
      rw (same_rest other number same, same, get_or-set_same row (number / 64) (bit_or (get_or row (number / 64) 0) (1 * 2 ^ (number % 64) % 18446744073709551616)) 0 within) (in_word (get_or row (number / 64) 0) (number % 64) (other % 64) (omega arith))
  by_word (inr (told, differ)) =
      rw (other_word other number differ, get_or-set_other row (number / 64) (other / 64) (bit_or (get_or row (number / 64) 0) (1 * 2 ^ (number % 64) % 18446744073709551616)) 0 differ) refl

top_of : (words : List ℕ) → ((k : ℕ) → k < length words → get_or words k 0 < 18446744073709551616) → weight words ≤ length words * 18446744073709551616
top_of [] below = omega arith
top_of (word ∷ words) below =
    let rest = top_of words (λ (k : ℕ) (within : k < length words). below (suc k) (omega arith)) in
    let first : word < 18446744073709551616 = below zero (omega arith) in
    omega (arith, sum_by-cons (λ (n : ℕ). n) word words)

-- what a row that grew has less room for
pub less_gap : (old new : List ℕ) → length new ≡ length old → ((k : ℕ) → k < length new → get_or new k 0 < 18446744073709551616) → weight old < weight new → gap new < gap old
less_gap old new even below more = let top = top_of new below in let same : length new * 18446744073709551616 ≡ length old * 18446744073709551616 = ap (λ n. n * 18446744073709551616) even in omega arith
