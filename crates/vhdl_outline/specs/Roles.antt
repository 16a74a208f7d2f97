-- Texts of at most 4,194,304 bytes, the limit for a file that the program reads.
use Rattle.std.specs.Prelude.{ℕ, ◌≤◌, List, length}
use Rattle.base.specs.declared.limits.TheConstants.{TEXT_LIMIT}

-- a text of at most 4,194,304 bytes
abbrev pub IsTextSmall : List ℕ → Type 0
IsTextSmall text = length text ≤ TEXT_LIMIT
