-- A tree in memory: a list of files. Of several files with the same path, the first one counts.
use Rattle.std.specs.Prelude.{◌≡◌, ℕ, ◌≤◌, nat_eq, List, [], ◌∷◌, length, map, filter, Option, Some, None, if◌then◌else◌}
use Rattle.std.specs.List.{AllByRecursion}
use Rattle.std.specs.Ordering.{nat_cmp}
use Rattle.std.specs.Cmp.Lexicographic.{pointwise, slice_cmp}
use Rattle.std.specs.BTreeSet.{insert_key}
use Rattle.std.specs.Str.{IsUtf8}
use Rattle.std.proofs.Common.{ap}
use Rattle.base.specs.declared.file.NamedText.{NamedText}
use Rattle.outside.specs.Trees.{is_listed, HoldsSame}
use Rattle.memory_outside.specs.declared.failing.Calls.{Calls}

-- a tree: its files, the paths that it was asked for, and its calls
pub record HeldTree : Type 0 where
  pub files : List NamedText
  pub asked : List (List ℕ)
  pub calls : Calls

-- the bytes of the first file of a path
abbrev pub file_at : List NamedText → List ℕ → Option (List ℕ)
file_at [] path = None
file_at (file ∷ rest) path = if pointwise nat_eq file.path path then Some file.bytes else file_at rest path

-- a path of a tree is a text and not empty
pub record IsPath (path : List ℕ) : Type 0 where
  pub some : 1 ≤ length path
  pub text : IsUtf8 path

-- the path of each file is a text and not empty
abbrev pub HavePaths : List NamedText → Type 0
HavePaths files = AllByRecursion (λ file. IsPath file.path) files

-- the paths of the files
abbrev pub paths_of : List NamedText → List (List ℕ)
paths_of files = map (λ file. file.path) files

-- paths in rising order, each once
abbrev pub rising_paths : List (List ℕ) → List (List ℕ)
rising_paths [] = []
rising_paths (path ∷ rest) = insert_key (slice_cmp nat_cmp) (rising_paths rest) path

-- the paths that a tree of these files lists, in rising order
abbrev pub listed_of : List NamedText → List (List ℕ)
listed_of files = rising_paths (filter is_listed (paths_of files))

-- trees of the same files hold and list the same
pub hold_same : {files others : List NamedText} → files ≡ others → HoldsSame (file_at files) (file_at others) (listed_of files) (listed_of others)
hold_same same = record { files = ap file_at same; lists = ap listed_of same }
