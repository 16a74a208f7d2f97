-- Rows of bits: sets of numbers, as words.
use Rattle.std.specs.Prelude.{ℕ, ◌-◌, ◌*◌, ◌/◌, ◌%◌, length, Bool, List, [], IsTrue, nat_eq, slice_index, slice_index_or}
use Rattle.std.specs.List.{sum_by}
use Rattle.std.specs.Int.{bit_at}

-- a row of words of 64 bits has a number
unfoldable pub row_has : List ℕ → ℕ → Bool
row_has row number = nat_eq (bit_at (slice_index row (number / 64)) (number % 64)) 1

-- the row of an index has a number
abbrev pub has : List (List ℕ) → ℕ → ℕ → Bool
has rows at number = row_has (slice_index_or rows at []) number

-- each number of the one set is in the other
abbrev pub IsPartOf : (ℕ → Bool) → (ℕ → Bool) → Type 0
IsPartOf some all = (number : ℕ) → IsTrue (some number) → IsTrue (all number)

-- at each index each number of the one set is in the other
abbrev pub AreWithin : (ℕ → ℕ → Bool) → (ℕ → ℕ → Bool) → Type 0
AreWithin some all = (at : ℕ) → IsPartOf (some at) (all at)

-- the words of a row, as a sum: it grows with the row
abbrev pub weight : List ℕ → ℕ
weight row = sum_by (λ word. word) row

-- how much that sum can grow yet
abbrev pub gap : List ℕ → ℕ
gap row = length row * 18446744073709551616 - weight row
