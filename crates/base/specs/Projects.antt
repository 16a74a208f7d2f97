-- A project names its files, each once, and how they are compiled and run.
use Rattle.std.specs.Prelude.{◌≢◌, ℕ, List, length, All, AllPairs}
use Rattle.base.specs.declared.project.ProjectFile.{ProjectFile}
use Rattle.base.specs.declared.project.Project.{Project}
use Rattle.base.specs.declared.limits.TheConstants.{SIMULATOR_LIMIT, WORD_LIMIT}
use Rattle.base.specs.Names.{IsBetween, FitsName, FitsCommand}

-- the name and the command of a file are within their limits
pub record IsProjectFile (file : ProjectFile) : Type 0 where
  pub name : FitsName file.name
  pub command : FitsCommand file.command

-- 1 to 32 words of 1 to 1,024 bytes each
pub record FitsSimulator (words : List (List ℕ)) : Type 0 where
  pub count : IsBetween 1 SIMULATOR_LIMIT (length words)
  pub each : All (λ word. IsBetween 1 WORD_LIMIT (length word)) words

-- files with distinct names, and a simulator's command within its limits
pub record IsProject (project : Project) : Type 0 where
  pub distinct : AllPairs (λ file other. file.name ≢ other.name) project.files
  pub each : All IsProjectFile project.files
  pub simulator : FitsSimulator project.simulator
