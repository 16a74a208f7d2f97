-- What is taken from a source and what is put into a sink.
use Rattle.std.specs.Prelude.{◌≡◌, ℕ, ◌≤◌, nat_le, ◌==◌, Bool, List, ◌++◌, length, Result, Ok, Err, if◌then◌else◌}
use Rattle.std.specs.List.{before_first, after_first}
use Rattle.outside.specs.declared.streams.TakeEnd.{TakeEnd}
use Rattle.outside.specs.declared.streams.TakeEnd.TheVariants.{Got, TooLong}
use Rattle.outside.specs.declared.streams.LineEnd.{LineEnd}
use Rattle.outside.specs.declared.streams.LineEnd.TheVariants as line
use Rattle.outside.specs.declared.streams.SinkFault.{SinkFault}

-- what is taken of an input: all of its bytes, or that they are more than the limit
abbrev pub take_end : List ℕ → ℕ → TakeEnd
take_end input limit = if nat_le (length input) limit then Got input else TooLong

-- no more than the limit was taken
abbrev pub IsTaken : ℕ → TakeEnd → Type 0
IsTaken limit (Got input) = length input ≤ limit
IsTaken limit TooLong = Unit {0}

-- a byte that ends a line
abbrev pub is_line_feed : ℕ → Bool
is_line_feed byte = byte == 10

-- the first line of an input: the bytes before its first line feed, or all bytes if it has no line feed
abbrev pub first_line : List ℕ → List ℕ
first_line input = before_first is_line_feed input

-- what remains after the first line and its line feed
abbrev pub after_line : List ℕ → List ℕ
after_line input = after_first is_line_feed input

-- What is taken as a line of an input: the end where the input has no byte, the first line, or that this line has more
-- bytes than the limit. The line feed doesn't count.
abbrev pub line_end : List ℕ → ℕ → LineEnd
line_end input limit = if length input == 0 then line.End else (if nat_le (length (first_line input)) limit then line.Got (first_line input) else line.TooLong)

-- no line over the limit was taken
abbrev pub FitsLine : ℕ → LineEnd → Type 0
FitsLine limit (line.Got bytes) = length bytes ≤ limit
FitsLine limit line.End = Unit {0}
FitsLine limit line.TooLong = Unit {0}

-- a prefix of the bytes was added
pub record AddsPrefix (bytes old new : List ℕ) : Type 0 where
  pub prefix : List ℕ
  pub back : List ℕ
  pub parts : bytes ≡ prefix ++ back
  pub added : new ≡ old ++ prefix

-- after Ok all bytes were put, after a fault a prefix of them
abbrev pub Puts : {T : Type 0} → Result T SinkFault → List ℕ → List ℕ → List ℕ → Type 0
Puts (Ok value) bytes old new = new ≡ old ++ bytes
Puts (Err fault) bytes old new = AddsPrefix bytes old new
