-- Sets of positions as words of 64 bits, and the next position of a set.
use Rattle.std.specs.Prelude.{◌≡◌, ℕ, ◌<◌, ◌≤◌, ◌/◌, ◌%◌, ◌==◌, Bool, true, false, List, slice_index, Option, Some, None}
use Rattle.std.specs.Int.{bit_at}
use Rattle.base_collections.specs.declared.set.PositionSet.{PositionSet}

-- the bit of a position is set
unfoldable pub is_set : List ℕ → ℕ → Bool
is_set words at = bit_at (slice_index words (at / 64)) (at % 64) == 1

-- the position is in the set
abbrev pub has : PositionSet → ℕ → Bool
has set at = is_set set.words at

-- the least position from one on that passes, or nothing where none passes
abbrev pub IsNext : (ℕ → Bool) → ℕ → Option ℕ → Type 0
IsNext test from (Some next) = (from ≤ next) × (test next ≡ true) × ((at : ℕ) → from ≤ at → at < next → test at ≡ false)
IsNext test from None = (at : ℕ) → from ≤ at → test at ≡ false
