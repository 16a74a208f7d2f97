-- The lines of artefacts, and the libraries of the files that these were made of.
use Rattle.std.specs.Prelude.{ℕ, Bool, ◌==◌, if◌then◌else◌, List, length, drop, Option, Some, None}
use Rattle.std.specs.List.{slice_split, starts_with}
use Rattle.std.specs.Str.{bytes_eq}
use Rattle.base.specs.declared.graph.BuiltFile.{BuiltFile}

-- the lines of bytes, between line feeds; what comes after the last one is a line too
abbrev pub lines : List ℕ → List (List ℕ)
lines bytes = slice_split (λ byte. byte == 10) bytes

-- what comes after a word, where bytes begin with it
unfoldable pub after_word : List ℕ → List ℕ → Option (List ℕ)
after_word word bytes = if starts_with (λ a b. a == b) bytes word then Some (drop (length word) bytes) else None

-- a file is of a library
abbrev pub in_library : List ℕ → BuiltFile → Bool
in_library library file = bytes_eq file.name.library library
