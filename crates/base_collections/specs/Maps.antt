-- Keys with values.
use Rattle.std.specs.Prelude.{ℕ, Bool, List, Option, Some, None, position, slice_get}

-- keys in order, and the value of each
pub record Entries (K V : Type 0) : Type 0 where
  pub keys : List K
  pub values : List V

-- what has the bucket of a key
abbrev pub at_bucket : {V : Type 0} → List V → Option ℕ → Option V
at_bucket values None = None
at_bucket values (Some bucket) = slice_get values bucket

-- the value of a key, if it has one
abbrev pub get : {K V : Type 0} → (K → K → Bool) → Entries K V → K → Option V
get eq entries key = at_bucket entries.values (position (eq key) entries.keys)
