-- Walks that pass over the indices that fail a test.
use Rattle.std.specs.Prelude.{◌≡◌, ℕ, ◌<◌, ◌≤◌, Bool, false}

-- no index from one up to another passes a test
abbrev pub NonePasses : (ℕ → Bool) → ℕ → ℕ → Type 0
NonePasses test from end = (at : ℕ) → from ≤ at → at < end → test at ≡ false

-- a walk that goes up to an index at most has passed over indices that fail a test
pub record HasPassedOver (test : ℕ → Bool) (from end at : ℕ) : Type 0 where
  pub reaches : from ≤ at
  pub within : at ≤ end
  pub none : NonePasses test from at
