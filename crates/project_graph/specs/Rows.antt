-- Closures as rows of bits: of each rank of an order the ranks of what its file depends on.
use Rattle.std.specs.Prelude.{◌≡◌, ℕ, ◌<◌, Bool, false, List, length, slice_get, slice_index}
use Rattle.std.specs.Option.{option_map_or}
use Rattle.base_collections.specs.declared.set.PositionSet.{PositionSet}
use Rattle.base_collections.specs.Positions.{has}

-- a position is in the row of a rank
unfoldable pub row_has : List PositionSet → ℕ → ℕ → Bool
row_has rows rank at = option_map_or (λ row. has row at) (slice_get rows rank) false

-- a table has the rank of each file in an order
pub record AreRanks (ranks order : List ℕ) (count : ℕ) : Type 0 where
  pub as_many : length ranks ≡ count
  pub each : (rank : ℕ) → rank < length order → slice_index ranks (slice_index order rank) ≡ rank
