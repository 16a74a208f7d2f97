-- The units of a project by name: an index of them, and what it is to add one.
use Rattle.std.specs.Prelude.{◌≡◌, ℕ, ◌<◌, Option, Some, None, Result, Ok, Err, List, [], ◌∷◌, ◌++◌, Contains, slice_get, if◌then◌else◌}
use Rattle.std.specs.List.{All, find}
use Rattle.std.specs.Option.{option_map}
use Rattle.base_collections.specs.Maps.{Entries, get}
use Rattle.base.specs.declared.design.Unit.{Unit as DesignUnit}
use Rattle.base.specs.declared.linking.LinkFault.{LinkFault}
use Rattle.base.specs.declared.linking.LinkFault.TheVariants.{NoMemory}
use Rattle.base.specs.declared.project.ProjectFile.{ProjectFile}
use Rattle.vhdl_spec.specs.Dependencies.{LinkUnit, duplicate_of, first_duplicate, is_alike, is_package_kind}
use Rattle.vhdl_graph.specs.declared.index.UnitIndex.{UnitIndex}
use Rattle.vhdl_graph.specs.Keys.{DesignUnitKey, is_same_key, key_of}

-- the fault is the one that is said, unless memory ran out
abbrev pub IsFaultOf : Option LinkFault → LinkFault → Type 0
IsFaultOf said NoMemory = Unit {0}
IsFaultOf said fault = said ≡ Some fault

-- the result is a right value if there is no fault, and otherwise the fault; memory may run out in both cases
abbrev pub GivesOrFaults : {T : Type 0} → Option LinkFault → (T → Type 0) → Result T LinkFault → Type 0
GivesOrFaults said right (Ok value) = (said ≡ None) × right value
GivesOrFaults said right (Err fault) = IsFaultOf said fault

-- a call answered this fault, or out of memory
abbrev pub Refuses : {T : Type 0} → LinkFault → Result T LinkFault → Type 0
Refuses fault (Ok value) = ⊥
Refuses fault (Err given) = IsFaultOf (Some fault) given

-- where a unit stands, and whether it is a package
abbrev pub index_of_unit : LinkUnit → UnitIndex
index_of_unit unit = record { file = unit.position; is_package = is_package_kind unit.scope.unit.kind }

-- the first unit of a name
abbrev pub unit_named : List LinkUnit → DesignUnitKey → Option LinkUnit
unit_named units key = find (λ unit. is_same_key key (key_of unit)) units

-- the index of each name is that of its unit
abbrev pub HoldsUnits : Entries DesignUnitKey UnitIndex → List LinkUnit → Type 0
HoldsUnits index units = (key : DesignUnitKey) → get is_same_key index key ≡ option_map index_of_unit (unit_named units key)

-- a name has another index, and the others have theirs
abbrev pub GivesIndex : Entries DesignUnitKey UnitIndex → Entries DesignUnitKey UnitIndex → DesignUnitKey → UnitIndex → Type 0
GivesIndex old new key unit_index = (other : DesignUnitKey) → get is_same_key new other ≡ (if is_same_key key other then Some unit_index else get is_same_key old other)

-- no two units have one name
abbrev pub AreDistinct : List LinkUnit → Type 0
AreDistinct units = (unit other : LinkUnit) → Contains units unit → Contains units other → key_of unit ≡ key_of other → unit ≡ other

-- a unit is of the file at its position
abbrev pub IsOfFile : List ProjectFile → LinkUnit → Type 0
IsOfFile files unit = (slice_get files unit.position ≡ Some unit.file) × (unit.scope.library ≡ unit.file.name.library)

-- an index of units of files, which have distinct names
pub record IsIndex (files : List ProjectFile) (units : List LinkUnit) (index : Entries DesignUnitKey UnitIndex) : Type 0 where
  pub holds : HoldsUnits index units
  pub distinct : AreDistinct units
  pub of : All (IsOfFile files) units

-- each unit that the index has is of a file of the project
abbrev pub ArePositionsOfFiles : ℕ → Entries DesignUnitKey UnitIndex → Type 0
ArePositionsOfFiles files index = (key : DesignUnitKey) (unit_index : UnitIndex) → get is_same_key index key ≡ Some unit_index → unit_index.file < files

-- a design unit of a file
pub record IsUnitOf (files : List ProjectFile) (file : ℕ) (design : DesignUnit) (unit : LinkUnit) : Type 0 where
  pub position : unit.position ≡ file
  pub is : unit.scope.unit ≡ design
  pub of : IsOfFile files unit

-- the unit before that has the name of this one makes a fault
abbrev pub fault_before : List LinkUnit → LinkUnit → Option LinkFault
fault_before units unit = option_map (λ first. duplicate_of first unit) (find (is_alike unit) units)

-- a unit was added, unless there is one of its name
abbrev pub AddsUnit : {T : Type 0} → List ProjectFile → List LinkUnit → LinkUnit → Entries DesignUnitKey UnitIndex → Result T LinkFault → Type 0
AddsUnit files units unit new result = GivesOrFaults (fault_before units unit) (λ value. IsIndex files (units ++ unit ∷ []) new) result

-- the units of a file were added, unless there is one of the name of one before
abbrev pub AddsAll : {T : Type 0} → List ProjectFile → List LinkUnit → List LinkUnit → Entries DesignUnitKey UnitIndex → Result T LinkFault → Type 0
AddsAll files units more new (Ok value) = IsIndex files (units ++ more) new × ((rest : List LinkUnit) → first_duplicate units (more ++ rest) ≡ first_duplicate (units ++ more) rest)
AddsAll files units more new (Err fault) = (rest : List LinkUnit) → IsFaultOf (first_duplicate units (more ++ rest)) fault
