-- What the parts of a project file give, one after the other, and what is read of them.
use Rattle.std.specs.Prelude.{◌≡◌, ℕ, ◌+◌, List, ◌∷◌, Result, Ok, Err}
use Rattle.base.specs.declared.file.FileName.{FileName}
use Rattle.base.specs.declared.memory.OrMemory.{OrMemory}
use Rattle.base.specs.declared.memory.OrMemory.TheVariants as memory
use Rattle.base.specs.declared.project.ProjectFault.{ProjectFault}
use Rattle.project_file.specs.Csv.{files_after}

-- one more line of a project file, after the files of those before it
abbrev pub TakesLine : List FileName → ℕ → List ℕ → Result (Unit {0}) (OrMemory ProjectFault) → List FileName → Type 0
TakesLine old number line (Ok done) new = (rest : List (List ℕ)) → files_after old number (line ∷ rest) ≡ files_after new (number + 1) rest
TakesLine old number line (Err memory.NoMemory) new = Unit {0}
TakesLine old number line (Err (memory.Fault fault)) new = (rest : List (List ℕ)) → files_after old number (line ∷ rest) ≡ Err fault

-- a call read what the definition says, or ran out of memory
abbrev pub ReadsStep : {T : Type 0} → Result T ProjectFault → Result T (OrMemory ProjectFault) → Type 0
ReadsStep said (Ok read) = said ≡ Ok read
ReadsStep said (Err memory.NoMemory) = Unit {0}
ReadsStep said (Err (memory.Fault fault)) = said ≡ Err fault

-- a call read what the definition says, seen by `see`, or ran out of memory
abbrev pub ReadsAs : {S T : Type 0} → (S → T) → Result T ProjectFault → Result S (OrMemory ProjectFault) → Type 0
ReadsAs see said (Ok read) = said ≡ Ok (see read)
ReadsAs see said (Err memory.NoMemory) = Unit {0}
ReadsAs see said (Err (memory.Fault fault)) = said ≡ Err fault
