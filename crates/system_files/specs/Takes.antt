-- The bytes taken from a reader, if its remaining bytes are known.
use Rattle.std.specs.Prelude.{◌≡◌, ℕ, Bool, List, length, ◌++◌, Option, Some, None}
use Rattle.std.specs.List.{position_or_len}
use Rattle.std.specs.Io.KnownBytes.{Consumes}
use Rattle.outside.specs.Streams.{take_end, line_end, after_line, is_line_feed}
use Rattle.outside.specs.declared.streams.TakeEnd.{TakeEnd}
use Rattle.outside.specs.declared.streams.TakeEnd.TheVariants.{Got, TooLong}
use Rattle.outside.specs.declared.streams.LineEnd.{LineEnd}
use Rattle.system_files.specs.Prefixes.{IsPrefix}

-- the result of taking all remaining bytes, up to a limit
abbrev pub IsTakenOf : ℕ → Option (List ℕ) → TakeEnd → Type 0
IsTakenOf limit None end = Unit {0}
IsTakenOf limit (Some bytes) end = end ≡ take_end bytes limit

-- bytes, and what was taken of those after them
abbrev pub behind_front : List ℕ → TakeEnd → TakeEnd
behind_front front (Got bytes) = Got (front ++ bytes)
behind_front front TooLong = TooLong

-- the result of taking the first line of the remaining bytes, up to a limit
abbrev pub IsLineOf : ℕ → Option (List ℕ) → LineEnd → Type 0
IsLineOf limit None end = Unit {0}
IsLineOf limit (Some bytes) end = end ≡ line_end bytes limit

-- the bytes after the first line of the old remaining bytes still remain
abbrev pub IsAfterLine : Option (List ℕ) → Option (List ℕ) → Type 0
IsAfterLine None new = Unit {0}
IsAfterLine (Some bytes) None = ⊥
IsAfterLine (Some bytes) (Some rest) = rest ≡ after_line bytes

-- the bytes that were taken are a part of one line, and of them up to a limit was kept
pub record IsLinePart (limit : ℕ) (old new : Option (List ℕ)) (kept : List ℕ) (more : Bool) : Type 0 where
  pub seen : List ℕ
  pub taken : Consumes old new seen
  pub part : IsPrefix limit (Some seen) kept more
  pub unended : position_or_len is_line_feed seen ≡ length seen
