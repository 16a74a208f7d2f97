-- A list with room: its items, and how many items it holds before it takes memory again.
use Rattle.std.specs.Prelude.{ℕ, List}

-- a list of items, and how many it can hold in all before it takes memory again
pub record Roomy (T : Type 0) : Type 0 where
  pub items : List T
  pub room : ℕ
