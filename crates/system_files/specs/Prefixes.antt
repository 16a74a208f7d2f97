-- The kept prefix of a reader's bytes, if these are known.
use Rattle.std.specs.Prelude.{◌≡◌, ℕ, Bool, nat_lt, List, length, take, Option, Some, None}

-- The kept bytes are the reader's remaining bytes up to a limit. There is more exactly if the remaining bytes exceed the limit.
abbrev pub IsPrefix : ℕ → Option (List ℕ) → List ℕ → Bool → Type 0
IsPrefix limit None kept more = Unit {0}
IsPrefix limit (Some bytes) kept more = (kept ≡ take limit bytes) × (more ≡ nat_lt limit (length bytes))
