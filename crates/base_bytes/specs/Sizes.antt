-- Tests of the sizes of names and commands.
use Rattle.std.specs.Prelude.{ℕ, nat_le, Bool, ◌&&◌, List, length}
use Rattle.std.specs.List.{list_all}
use Rattle.base.specs.declared.file.FileName.{FileName}
use Rattle.base.specs.declared.limits.TheConstants.{COMMAND_LIMIT, LIBRARY_LIMIT, PATH_LIMIT, WORD_LIMIT}

-- a number from low to high, both included
abbrev pub is_within : ℕ → ℕ → ℕ → Bool
is_within low high n = nat_le low n && nat_le n high

-- a library of 1 to 64 bytes, and a path of 1 to 1,024
abbrev pub has_name_sizes : FileName → Bool
has_name_sizes name = is_within 1 LIBRARY_LIMIT (length name.library) && is_within 1 PATH_LIMIT (length name.path)

-- 1 to 64 words of at most 1,024 bytes each
abbrev pub has_command_sizes : List (List ℕ) → Bool
has_command_sizes command = is_within 1 COMMAND_LIMIT (length command) && list_all (λ word. nat_le (length word) WORD_LIMIT) command
