-- Rising numbers.
use Rattle.std.proofs.Common.{ℕ, zero, suc, ◌<◌, ◌≤◌, List, length, get_or, arith, inl, inr}
use Rattle.std.specs.Prelude.{All}
use Rattle.std.specs.List.Sorted.{IsStrictlyIncreasing}
use Rattle.std.proofs.lemmas.Bool.{cases_lt}
use Rattle.std.proofs.lemmas.List.Kept.{AllPairs-from_increasing}

module _ (positions : List ℕ) (rising : IsStrictlyIncreasing positions) where
  pub before_later : (i j : ℕ) → i < j → j < length positions → get_or positions i 0 < get_or positions j 0
  before_later i j a b = AllPairs-from_increasing positions rising i j 0 a b

  -- a position is at least its number
  pub rank_le : (k : ℕ) → k < length positions → k ≤ get_or positions k 0
  rank_le zero lt = omega arith
  rank_le (suc k) lt = omega (arith, rank_le k (omega arith), before_later k (suc k) (omega arith) lt)

  -- so there are no more positions than numbers below a bound
  pub few : (n : ℕ) → All (λ p. p < n) positions → length positions ≤ n
  few n within = elim (cases_lt n (length positions)) [
    | inl l ↦ absurd (omega (arith, rank_le n l, within n 0 l))
    | inr le ↦ le
  ]
