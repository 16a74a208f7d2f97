-- A fold over positions, from the first one on: what a position is given follows from what those before it were given.
use Rattle.std.specs.Prelude.{ℕ, zero, suc, ◌==◌, if◌then◌else◌}

-- what the positions below a number are given, and `none` at all others
unfoldable pub upto : {R : Type 0} → ((ℕ → R) → ℕ → R) → R → ℕ → ℕ → R
upto next none zero position = none
upto next none (suc n) position = if position == n then next (upto next none n) n else upto next none n position
