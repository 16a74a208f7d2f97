-- How the program looks up what a unit of a project needs.
use Rattle.std.specs.Prelude.{◌≡◌, ℕ, ◌<◌, Bool, true, false, ◌&&◌, ◌||◌, List, [], length, slice_index_or}
use Rattle.std.specs.List.{list_any}
use Rattle.std.specs.Str.{bytes_eq}
use Rattle.base.specs.declared.design.UnitKind.{UnitKind}
use Rattle.base.specs.declared.design.UnitKind.TheVariants as kinds
use Rattle.base.specs.declared.lexical.Token.{Token}
use Rattle.base.specs.declared.project.ProjectFile.{ProjectFile}
use Rattle.base.specs.declared.refs.UnitId.{UnitId}
use Rattle.vhdl_outline.specs.declared.outlines.FileOutline.{FileOutline}
use Rattle.vhdl_scope.specs.Tables.{AreVisible, table_sees}
use Rattle.vhdl_units.specs.UnitKeys.{unit_key}
use Rattle.vhdl_units.specs.Names.{token_name}
use Rattle.project_minimal.specs.MinimalSet.{NeedSources, needs}
use Rattle.project_minimal.specs.Sources.{AreNeeds, AreSources}
use Rattle.project_minimal.specs.Taking.{is_taken}
use Rattle.project_minimal.specs.Suppliers.{FitAll, HoldsFiles, supplies}
use Rattle.project_minimal.specs.declared.index.Index.{Index}
use Rattle.project_minimal.specs.declared.taken.Taken.{Taken}
use Rattle.project_minimal.specs.declared.units.Tables.{Tables}

-- the number of files
abbrev pub count_of : Tables → ℕ
count_of tables = length tables.sources.project.now.files

-- the tables are of the files
pub record AreTables (tables : Tables) : Type 0 where
  pub sources : AreSources tables.sources
  pub fit : FitAll (count_of tables) tables.index.now
  pub starts : length tables.sets.now.starts ≡ count_of tables

-- the tables hold the sources, the names of units and the visible libraries of these files
pub record IsKnown (tables : Tables) (said : NeedSources) : Type 0 where
  pub needs : AreNeeds tables.sources said
  pub index : HoldsFiles said (length said.files) tables.index.now
  pub visible : AreVisible said.files said.texts said.scans tables.sets.now

-- an outline without units, for positions past the end
abbrev pub no_outline : FileOutline
no_outline = record { units = []; scopes = []; unresolved = []; runs = record { units = []; same_sim = false } }

-- the outline of a file
abbrev pub outline_at : Tables → ℕ → FileOutline
outline_at tables at = slice_index_or tables.sources.outlines.now at no_outline

-- a file without a name, for positions past the end
abbrev pub no_file : ProjectFile
no_file = record { name = record { library = []; path = [] }; command = [] }

-- the library of a file
abbrev pub library_at : Tables → ℕ → List ℕ
library_at tables at = (slice_index_or tables.sources.project.now.files at no_file).name.library

-- the library of a file is that of a unit, or visible in it
abbrev pub looks : Tables → UnitId → ℕ → Bool
looks tables id at = bytes_eq (library_at tables id.file) (library_at tables at) || table_sees tables.sets.now id (library_at tables at)

-- a file supplies an entity of a name in a library that a unit looks into
abbrev pub binds : Tables → UnitId → List ℕ → ℕ → Bool
binds tables id name at = looks tables id at && supplies tables.index.now.entities (unit_key [] name) at

-- a file supplies what belongs to a unit of a kind
abbrev pub has_part : Index → UnitKind → List ℕ → List ℕ → ℕ → Bool
has_part index kinds.Entity library name at = supplies index.architectures (unit_key library name) at
has_part index kinds.Package library name at = supplies index.bodies (unit_key library name) at
has_part index _ library name at = false

-- a component of one of these tokens in a unit may be bound to an entity of a file
abbrev pub binds_one : Tables → UnitId → List ℕ → List Token → ℕ → Bool
binds_one tables id text components at = list_any (λ token. binds tables id (token_name text token) at) components

-- a set of files has what its own files need
abbrev pub HasAllNeeds : NeedSources → (ℕ → Bool) → Type 0
HasAllNeeds said set = (user used : ℕ) → user < length said.files → used < length said.files → set user ≡ true → needs said user used ≡ true → set used ≡ true

-- from files that were taken others were, until all were that these need; and no more
pub record HasGrown (said : NeedSources) (old new : Taken) : Type 0 where
  pub kept : (at : ℕ) → is_taken old at ≡ true → is_taken new at ≡ true
  pub all : HasAllNeeds said (is_taken new)
  pub least : (set : ℕ → Bool) → ((at : ℕ) → is_taken old at ≡ true → set at ≡ true) → HasAllNeeds said set → (at : ℕ) → is_taken new at ≡ true → set at ≡ true
