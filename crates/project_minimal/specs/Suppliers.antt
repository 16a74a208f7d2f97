-- The files that supply units, by what the units are called where they are needed.
use Rattle.std.specs.Prelude.{◌≡◌, ℕ, ◌<◌, ◌==◌, nat_lt, Bool, false, ◌&&◌, ◌||◌, if◌then◌else◌, Option, Some, None, List, [], ◌∷◌, ◌++◌, length, set, slice_index_or}
use Rattle.std.specs.List.{All, list_any, position_or_len}
use Rattle.base.specs.declared.design.Unit.{Unit as DesignUnit}
use Rattle.base.specs.declared.design.UnitKind.{UnitKind}
use Rattle.base.specs.declared.design.UnitKind.TheVariants as kinds
use Rattle.vhdl_spec.specs.References.{owner_name}
use Rattle.project_minimal.specs.MinimalSet.{NeedSources, units_at}
use Rattle.vhdl_units.specs.UnitKeys.{is_same_unit, unit_key}
use Rattle.vhdl_units.specs.declared.units.UnitKey.{UnitKey}
use Rattle.project_minimal.specs.declared.suppliers.Suppliers.{Suppliers}
use Rattle.project_minimal.specs.declared.index.Index.{Index}

-- the files of a name
abbrev pub files_of : Suppliers → UnitKey → List ℕ
files_of suppliers name = slice_index_or suppliers.files.items (position_or_len (is_same_unit name) suppliers.names) []

-- whether a file is in a list of positions
abbrev pub has_file : List ℕ → ℕ → Bool
has_file files at = list_any (λ file. file == at) files

-- with room for one more number, where that is the next one
abbrev pub with_room : ℕ → List (List ℕ) → List (List ℕ)
with_room number files = if number == length files then files ++ [] ∷ [] else files

-- a file was added to the list of a number
pub record HasPut (number file : ℕ) (old new : List (List ℕ)) : Type 0 where
  pub row : List ℕ
  pub is : new ≡ set (with_room number old) number row
  pub has : (at : ℕ) → has_file row at ≡ (has_file (slice_index_or old number []) at || file == at)

-- a file supplies a unit of a name
unfoldable pub supplies : Suppliers → UnitKey → ℕ → Bool
supplies suppliers name at = has_file (files_of suppliers name) at

-- each name has a list of files
abbrev pub IsPaired : Suppliers → Type 0
IsPaired suppliers = length suppliers.files.items ≡ length suppliers.names

-- each name has a list of files, whose positions are all below a count
pub record FitFiles (count : ℕ) (suppliers : Suppliers) : Type 0 where
  pub paired : IsPaired suppliers
  pub within : All (λ files. All (λ file. file < count) files) suppliers.files.items

-- no file supplies anything
pub record IsVoid (suppliers : Suppliers) : Type 0 where
  pub names : suppliers.names ≡ []
  pub files : suppliers.files.items ≡ []

-- ## What units are called

-- an architecture by its entity, in its library
abbrev pub architecture_by : UnitKind → List ℕ → DesignUnit → Option UnitKey
architecture_by kinds.Architecture library unit = Some (unit_key library (owner_name unit.owner))
architecture_by _ library unit = None

-- a body by its package, in its library
abbrev pub body_by : UnitKind → List ℕ → DesignUnit → Option UnitKey
body_by kinds.PackageBody library unit = Some (unit_key library unit.name)
body_by _ library unit = None

-- an entity by its name alone
abbrev pub entity_by : UnitKind → List ℕ → DesignUnit → Option UnitKey
entity_by kinds.Entity library unit = Some (unit_key [] unit.name)
entity_by _ library unit = None

-- how units of one kind are called where they are needed, by their library; nothing for units of other kinds
abbrev pub Naming : Type 0
Naming = List ℕ → DesignUnit → Option UnitKey

-- architectures are called by their entity
abbrev pub architecture_name : Naming
architecture_name library unit = architecture_by unit.kind library unit

-- bodies are called by their package
abbrev pub body_name : Naming
body_name library unit = body_by unit.kind library unit

-- entities are called by their name alone, whatever their library
abbrev pub entity_name : Naming
entity_name library unit = entity_by unit.kind library unit

-- whether a unit is called by this name
abbrev pub is_called : UnitKey → Option UnitKey → Bool
is_called name None = false
is_called name (Some other) = is_same_unit name other

-- whether one of some units of a library is called by this name
abbrev pub calls_one : Naming → List ℕ → List DesignUnit → UnitKey → Bool
calls_one naming library units name = list_any (λ unit. is_called name (naming library unit)) units

-- the units of a file that a naming calls were added
pub record Adds (naming : Naming) (library : List ℕ) (units : List DesignUnit) (file count : ℕ) (old new : Suppliers) : Type 0 where
  pub fit : FitFiles count new
  pub all : (name : UnitKey) (at : ℕ) → supplies new name at ≡ (supplies old name at || (file == at && calls_one naming library units name))

-- the architectures, bodies and entities of a file were added
pub record AddsAll (library : List ℕ) (units : List DesignUnit) (file count : ℕ) (old new : Index) : Type 0 where
  pub architectures : Adds architecture_name library units file count old.architectures new.architectures
  pub bodies : Adds body_name library units file count old.bodies new.bodies
  pub entities : Adds entity_name library units file count old.entities new.entities

-- all positions of files in an index are below a count
pub record FitAll (count : ℕ) (index : Index) : Type 0 where
  pub architectures : FitFiles count index.architectures
  pub bodies : FitFiles count index.bodies
  pub entities : FitFiles count index.entities

-- no file supplies an architecture, a body or an entity
pub record AreVoid (index : Index) : Type 0 where
  pub architectures : IsVoid index.architectures
  pub bodies : IsVoid index.bodies
  pub entities : IsVoid index.entities

-- ## The units of a project

-- whether a file before a position has a unit that is called by this name
abbrev pub is_supplied : Naming → NeedSources → ℕ → UnitKey → ℕ → Bool
is_supplied naming sources end name at = nat_lt at end && list_any (λ unit. is_called name (naming unit.scope.library unit.scope.unit)) (units_at sources at)

-- for each name exactly the files before a position that supply a unit that is called so
abbrev pub HoldsSuppliers : Naming → NeedSources → ℕ → Suppliers → Type 0
HoldsSuppliers naming sources end suppliers = (name : UnitKey) (at : ℕ) → supplies suppliers name at ≡ is_supplied naming sources end name at

-- the units of the files before a position
pub record HoldsFiles (sources : NeedSources) (end : ℕ) (index : Index) : Type 0 where
  pub architectures : HoldsSuppliers architecture_name sources end index.architectures
  pub bodies : HoldsSuppliers body_name sources end index.bodies
  pub entities : HoldsSuppliers entity_name sources end index.entities
