-- What a clean build makes of the generated project.
use Rattle.std.specs.Prelude.{◌≡◌, ℕ, ◌≤◌, ◌==◌, Bool, true, List, length, Contains}
use Rattle.base.specs.declared.child.Exit.{Exit}
use Rattle.base.specs.declared.child.Request.{Request}
use Rattle.base.specs.declared.graph.BuiltFile.{BuiltFile}
use Rattle.base.specs.declared.graph.Entry.{Entry}
use Rattle.base.specs.declared.limits.TheConstants.{ARTEFACT_LIMIT, TEXT_LIMIT}
use Rattle.base.specs.Graphs.{IsBuilt}
use Rattle.base.specs.Jobs.{compile_request}
use Rattle.base.specs.Names.{FitsName}
use Rattle.generated_sources.specs.PackageLinks.{used_library}
use Rattle.generated_sources.specs.NumberedFiles.{uses_number}
use Rattle.generated_laws.specs.NumberedGraphs.{IsEntryOfNumber, numbered_name}

-- A file of the library `lib` has the artefact of a number, edited or not.
pub record IsNumberBuilt (artefact : (number : ℕ) → (noted : Bool) → List ℕ) (number : ℕ) (file : BuiltFile) : Type 0 where
  pub library : file.name.library ≡ used_library
  pub noted : Bool
  pub artefact_is : file.artefact ≡ artefact number noted

-- one of the files that were built has it
pub record HasNumberBuilt (artefact : (number : ℕ) → (noted : Bool) → List ℕ) (number : ℕ) (built : List BuiltFile) : Type 0 where
  pub file : BuiltFile
  pub among : Contains built file
  pub is : IsNumberBuilt artefact number file

-- The file of a number as a clean build has it compiled: over files that were built, with one of the number that it uses.
pub record IsNumberAsked (artefact : (number : ℕ) → (noted : Bool) → List ℕ) (command : List (List ℕ)) (edited number : ℕ) (entry : Entry) (built : List BuiltFile) : Type 0 where
  pub entry_is : IsEntryOfNumber command edited number entry
  pub name : FitsName entry.name
  pub text : length entry.text ≤ TEXT_LIMIT
  pub built_are : IsBuilt built
  pub uses : (used : ℕ) → uses_number number used ≡ true → HasNumberBuilt artefact used built

-- An exit is that of a compiler that made this artefact.
pub record IsMadeBy (made : List ℕ) (exit : Exit) : Type 0 where
  pub code : exit.code ≡ 0
  pub output : exit.output ≡ made

-- The compiler makes the artefact of each number, edited or not, wherever it is asked for one over what it uses.
pub record MakesNumbered (count : ℕ) (command : List (List ℕ)) (artefact : (number : ℕ) → (noted : Bool) → List ℕ) (answer : Request → Exit) : Type 0 where
  pub small : (number : ℕ) (noted : Bool) → number ≤ count → length (artefact number noted) ≤ ARTEFACT_LIMIT
  pub makes : (edited number : ℕ) (entry : Entry) (built : List BuiltFile) → number ≤ count → IsNumberAsked artefact command edited number entry built → IsMadeBy (artefact number (number == edited)) (answer (compile_request entry built))

-- the file of a number with its artefact, where the package of a number is edited
abbrev pub numbered_built : (artefact : (number : ℕ) → (noted : Bool) → List ℕ) → (edited number : ℕ) → BuiltFile
numbered_built artefact edited number = record { name = numbered_name number; artefact = artefact number (number == edited) }
