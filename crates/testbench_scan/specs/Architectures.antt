-- The architectures of each entity of a project, as the program finds them.
use Rattle.std.specs.Prelude.{◌≡◌, true, false, Option, Some, None, List, [], ◌∷◌, filter}
use Rattle.vhdl_spec.specs.Dependencies.{is_architecture_kind}
use Rattle.base_collections.specs.Maps.{Entries, get}
use Rattle.base.specs.declared.refs.UnitId.{UnitId}
use Rattle.testbench_scan.specs.Benches.{ScannedFiles, design_unit, is_architecture_of}
use Rattle.testbench_scan.specs.Files.{IsInFiles}
use Rattle.testbench_scan.specs.declared.architectures.Architectures.{Architectures}
use Rattle.testbench_scan.specs.declared.files.Files.{Files}
use Rattle.vhdl_units.specs.declared.units.UnitKey.{UnitKey}
use Rattle.vhdl_units.specs.UnitKeys.{is_same_unit}

-- the first of some, and whether there are more
abbrev pub first_of_some : List UnitId → Option Architectures
first_of_some [] = None
first_of_some (first ∷ []) = Some (record { first = first; several = false })
first_of_some (first ∷ second ∷ others) = Some (record { first = first; several = true })

-- one more after these
abbrev pub one_more : Option Architectures → UnitId → Architectures
one_more None id = record { first = id; several = false }
one_more (Some found) id = record { first = found.first; several = true }

-- an index has the first of these units that is an architecture of an entity, and whether there are more, by the library and
-- the name of the entity
abbrev pub HoldsArchitectures : ScannedFiles → List UnitId → Entries UnitKey Architectures → Type 0
HoldsArchitectures sources ids index = (key : UnitKey) → get is_same_unit index key ≡ first_of_some (filter (is_architecture_of key.library key.name sources) ids)

-- each architecture of an index is a unit of the files
abbrev pub AreFoundInFiles : Files → Entries UnitKey Architectures → Type 0
AreFoundInFiles files index = (key : UnitKey) (found : Architectures) → get is_same_unit index key ≡ Some found → IsInFiles files found.first

-- the unit of a number is an architecture
abbrev pub IsArchitecture : ScannedFiles → UnitId → Type 0
IsArchitecture sources id = is_architecture_kind (design_unit sources id).kind ≡ true
