-- Sets of numbers of things, in the order of their new numbers.
use Rattle.std.specs.Prelude.{◌≢◌, ℕ, ◌<◌, ◌≤◌, All, AllPairs}
use Rattle.base_collections.specs.Numbers.{NumbersBelow}

-- Numbers below a size, each once, with room for all.
pub record AreNumbers (size : ℕ) (set : NumbersBelow) : Type 0 where
  pub room : size ≤ set.size
  pub below : All (λ number. number < size) set.numbers
  pub once : AllPairs (λ a b. a ≢ b) set.numbers
