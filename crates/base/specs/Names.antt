-- When two files have one name, and how long the names of files and the words of commands are.
use Rattle.std.specs.Prelude.{ℕ, ◌≤◌, Bool, ◌&&◌, List, length, All}
use Rattle.std.specs.List.{list_any}
use Rattle.std.specs.Str.{bytes_eq}
use Rattle.base.specs.declared.limits.TheConstants.{LIBRARY_LIMIT, PATH_LIMIT, COMMAND_LIMIT, WORD_LIMIT}
use Rattle.base.specs.declared.file.FileName.{FileName}

-- whether two names have the same library and the same path
abbrev pub is_same_name : FileName → FileName → Bool
is_same_name a b = bytes_eq a.library b.library && bytes_eq a.path b.path

-- whether a name is among names
abbrev pub has_name : List FileName → FileName → Bool
has_name names name = list_any (λ other. is_same_name other name) names

-- a number lies between two bounds, both included
pub record IsBetween (low high n : ℕ) : Type 0 where
  pub at_least : low ≤ n
  pub at_most : n ≤ high

-- a library of 1 to 64 bytes, and a path of 1 to 1,024
pub record FitsName (name : FileName) : Type 0 where
  pub library : IsBetween 1 LIBRARY_LIMIT (length name.library)
  pub path : IsBetween 1 PATH_LIMIT (length name.path)

-- 1 to 64 words of at most 1,024 bytes each
pub record FitsCommand (command : List (List ℕ)) : Type 0 where
  pub count : IsBetween 1 COMMAND_LIMIT (length command)
  pub words : All (λ word. length word ≤ WORD_LIMIT) command
