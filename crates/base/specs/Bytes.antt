-- Numbers and texts as bytes, in all formats alike.
use Rattle.std.specs.Prelude.{ℕ, List, ◌++◌, length}
use Rattle.std.specs.Int.{w32, to_le_bytes}

-- a number below 2 ^ 32 as four bytes, the low one first
abbrev pub number_bytes : ℕ → List ℕ
number_bytes n = to_le_bytes w32 n

-- a text: its length, and its bytes
unfoldable pub text_bytes : List ℕ → List ℕ
text_bytes bytes = number_bytes (length bytes) ++ bytes
