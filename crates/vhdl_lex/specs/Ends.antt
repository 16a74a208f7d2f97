-- Where lexical elements of a text end.
use Rattle.std.specs.Prelude.{◌≡◌, ℕ, ◌+◌, ◌-◌, ◌/◌, ◌^◌, ◌<◌, ◌≤◌, Bool, false, List, length, slice_index, Option, Some, None}
use Rattle.std.specs.Int.{w64, trailing_zeros}
use Rattle.vhdl_spec.specs.Tokens.{EachByte, IsBlockComment, IsDelimited}

-- from an offset up to the end each byte passes the test, and no further
pub record IsRunEnd (test : ℕ → Bool) (text : List ℕ) (start end : ℕ) : Type 0 where
  pub reaches : start ≤ end
  pub within : end ≤ length text
  pub each : EachByte test text start end
  pub stops : end < length text → test (slice_index text end) ≡ false

-- the end of the block comment that opens at an offset, or `None` if there is no such comment
abbrev pub IsCommentEnd : List ℕ → ℕ → Option ℕ → Type 0
IsCommentEnd text at None = (end : ℕ) → IsBlockComment text at end → ⊥
IsCommentEnd text at (Some end) = (end ≤ length text) × IsBlockComment text at end × ((other : ℕ) → IsBlockComment text at other → other ≤ end)

-- the furthest end of what opens with the delimiter at an offset, or `None` if it has no end
abbrev pub IsDelimitedEnd : ℕ → List ℕ → ℕ → Option ℕ → Type 0
IsDelimitedEnd delimiter text at None = (end : ℕ) → IsDelimited delimiter text at end → ⊥
IsDelimitedEnd delimiter text at (Some end) = (end ≤ length text) × IsDelimited delimiter text at end × ((other : ℕ) → IsDelimited delimiter text at other → other ≤ end)

-- the first offset from one on whose bit is set, where the lowest of 64 bits is that of the offset `base`
pub record IsStopFrom (from base stops end : ℕ) : Type 0 where
  pub near : from < base + 64
  pub some : 0 < stops / 2 ^ (from - base)
  pub there : end ≡ from + trailing_zeros w64 (stops / 2 ^ (from - base))

-- where a bit is set for 64 bytes, runs of bytes that pass the test stop
abbrev pub AreStops : (ℕ → Bool) → List ℕ → ℕ → ℕ → Type 0
AreStops test text base stops = (from end : ℕ) → base ≤ from → IsStopFrom from base stops end → IsRunEnd test text from end
