-- Names that a project file adds, and the set of those before them.
use Rattle.std.specs.Prelude.{◌≡◌, List, [], ◌∷◌, ◌++◌, Option, Some, None, Result, Ok, Err}
use Rattle.base.specs.declared.file.FileName.{FileName}
use Rattle.base.specs.declared.memory.OrMemory.{OrMemory}
use Rattle.base.specs.declared.memory.OrMemory.TheVariants as memory
use Rattle.base.specs.declared.project.ProjectFault.{ProjectFault}
use Rattle.base_collections.specs.Names.{Holds}

-- what a line adds, and the set then holds
abbrev pub AddsName : List FileName → List FileName → Result FileName ProjectFault → Result FileName (OrMemory ProjectFault) → Type 0
AddsName set before added (Ok name) = (added ≡ Ok name) × Holds set (before ++ name ∷ [])
AddsName set before added (Err memory.NoMemory) = Unit {0}
AddsName set before added (Err (memory.Fault fault)) = added ≡ Err fault

-- a name is admitted where it has no fault, and the set then holds it too
abbrev pub Admits : List FileName → List FileName → FileName → Option ProjectFault → Result (Unit {0}) (OrMemory ProjectFault) → Type 0
Admits set before name fault (Ok done) = (fault ≡ None) × Holds set (before ++ name ∷ [])
Admits set before name fault (Err memory.NoMemory) = Unit {0}
Admits set before name fault (Err (memory.Fault other)) = fault ≡ Some other
