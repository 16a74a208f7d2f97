-- Indices of files in a project, by an index of their names.
use Rattle.std.specs.Prelude.{◌≡◌, ◌≢◌, List, map, AllPairs}
use Rattle.base.specs.declared.file.FileName.{FileName}
use Rattle.base.specs.declared.project.ProjectFile.{ProjectFile}

-- the name of each file
abbrev pub names_of : List ProjectFile → List FileName
names_of files = map (λ file. file.name) files

-- the names of files, each once, in their order
pub record IsIndexOf (files : List ProjectFile) (keys : List FileName) : Type 0 where
  pub names : keys ≡ names_of files
  pub once : AllPairs (λ a b. a ≢ b) keys
