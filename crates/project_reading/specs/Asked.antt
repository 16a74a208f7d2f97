-- Which paths a tree is asked for: those of a project's sources, each once, in project order.
use Rattle.std.specs.Prelude.{◌≡◌, ℕ, nat_le, if◌then◌else◌, List, [], ◌∷◌, ◌++◌, length, map, codes, Option, Result, Ok, Err}
use Rattle.base.specs.declared.limits.TheConstants.{FILE_LIMIT, TEXT_LIMIT}
use Rattle.base.specs.declared.project.Project.{Project}
use Rattle.base.specs.declared.project.ProjectFile.{ProjectFile}
use Rattle.outside.specs.declared.tree.ReadEnd.{ReadEnd}
use Rattle.outside.specs.declared.tree.ReadEnd.TheVariants as read
use Rattle.outside.specs.Trees.{read_end}
use Rattle.project_reading.specs.Reading.{SourceReading, project_in}
use Rattle.project_reading.specs.declared.stops.ReadStop.{ReadStop}

-- the paths of files, in their order
abbrev pub file_paths : List ProjectFile → List (List ℕ)
file_paths files = map (λ file. file.name.path) files

-- the paths of the files of a project; those of too many files aren't read
abbrev pub source_paths : Project → List (List ℕ)
source_paths project = if nat_le (length project.files) FILE_LIMIT then file_paths project.files else []

-- the paths of a project's files; an empty list if the project couldn't be read
abbrev pub maybe_paths : Result Project SourceReading → List (List ℕ)
maybe_paths (Ok project) = source_paths project
maybe_paths (Err reading) = []

-- the other project file is read only if the TOML file is absent
abbrev pub other_paths : ReadEnd → List (List ℕ)
other_paths read.Absent = codes "vunit.csv" ∷ []
other_paths read.TooLong = []
other_paths (read.Got bytes) = []

-- the project files that are read
abbrev pub project_file_paths : (List ℕ → Option (List ℕ)) → List (List ℕ)
project_file_paths file = codes "vunit.toml" ∷ other_paths (read_end (file (codes "vunit.toml")) TEXT_LIMIT)

-- The paths to read in a tree: `vunit.toml`, then `vunit.csv` only if that is absent, and then the files of the project,
-- in its order.
unfoldable pub project_paths : (List ℕ → Option (List ℕ)) → List (List ℕ) → List (List ℕ)
project_paths file listed = project_file_paths file ++ maybe_paths (project_in file listed)

-- the first of some paths were asked for, in order, after the paths of before
pub record AsksFirst (paths old new : List (List ℕ)) : Type 0 where
  pub first : List (List ℕ)
  pub rest : List (List ℕ)
  pub split : paths ≡ first ++ rest
  pub asked : new ≡ old ++ first

-- Where a project was read, just these paths were asked for, in order; after any other answer the first of them.
abbrev pub AsksInOrder : {T : Type 0} → Result T ReadStop → List (List ℕ) → List (List ℕ) → List (List ℕ) → Type 0
AsksInOrder (Ok value) paths old new = new ≡ old ++ paths
AsksInOrder (Err stop) paths old new = AsksFirst paths old new
