-- Lines and columns, as editors count them.
use Rattle.std.specs.Prelude.{ℕ, suc, ◌==◌, List, [], ◌∷◌, if◌then◌else◌}

-- the line of what follows a text: one more than its line feeds
abbrev pub line_after : List ℕ → ℕ
line_after [] = 1
line_after (byte ∷ bytes) = if byte == 10 then suc (line_after bytes) else line_after bytes

-- the column of what follows a text that begins at this column: one more for each byte, and 1 after a line feed
abbrev pub column_after : ℕ → List ℕ → ℕ
column_after column [] = column
column_after column (byte ∷ bytes) = column_after (if byte == 10 then 1 else suc column) bytes
