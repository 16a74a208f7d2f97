-- The units of a project, with the tables of the names that they see, and what the units refer to.
use Rattle.std.specs.Prelude.{◌≡◌, ℕ, ◌<◌, Bool, true, not, ◌&&◌, if◌then◌else◌, Option, Some, None, Result, List, [], ◌∷◌, ◌++◌, length, map, slice_get}
use Rattle.std.specs.List.{flat_map, list_any}
use Rattle.std.specs.Str.{bytes_eq}
use Rattle.base.specs.declared.design.Scan.{Scan}
use Rattle.base.specs.declared.design.Unit.{Unit as DesignUnit}
use Rattle.base.specs.declared.file.FileName.{FileName}
use Rattle.base.specs.declared.linking.LinkFault.{LinkFault}
use Rattle.base.specs.declared.limits.TheConstants.{FILE_LIMIT}
use Rattle.base.specs.declared.linking.Linked.{Linked}
use Rattle.base.specs.declared.linking.Warning.{Warning}
use Rattle.base.specs.declared.project.Project.{Project}
use Rattle.base.specs.declared.project.ProjectFile.{ProjectFile}
use Rattle.base.specs.declared.refs.Ref.{Ref}
use Rattle.base.specs.declared.refs.UnitId.{UnitId}
use Rattle.base_collections.specs.declared.set.PositionSet.{PositionSet}
use Rattle.vhdl_spec.specs.References.{work}
use Rattle.vhdl_spec.specs.Visibility.{sees}
use Rattle.vhdl_spec.specs.Dependencies.{LinkUnit, edges_of, first_missing, first_some, link_unit, missing_of, names_unit, warnings_of}
use Rattle.vhdl_scope.specs.Tables.{table_sees}
use Rattle.vhdl_graph.specs.declared.seen.Looked.{Looked}
use Rattle.vhdl_graph.specs.declared.seen.Tables.{Tables}
use Rattle.vhdl_graph.specs.Indexes.{GivesOrFaults, IsIndex}
use Rattle.vhdl_graph.specs.Libraries.{AreLibraries, knows, stands_outside}
use Rattle.vhdl_graph.specs.Rows.{HasAdded, has_pair, is_in_row, stands_at}

-- the library that a name means in a library
abbrev pub named_library : List ℕ → List ℕ → List ℕ
named_library own named = if bytes_eq named work then own else named

-- the library that a name means, if it is seen
abbrev pub seen_library : Bool → List ℕ → List ℕ → Option (List ℕ)
seen_library is_seen own named = if is_seen then Some (named_library own named) else None

-- the warning of a use of a library, if the library has files
abbrev pub noted_library : Bool → ℕ → List ℕ → List Warning
noted_library has file library = if has then record { file = file; library = library } ∷ [] else []

-- the warning of a use of a library, if the unit sees the library and it has files
abbrev pub noted_where : Bool → Tables → ℕ → List ℕ → List Warning
noted_where is_seen tables file library = if is_seen then noted_library (knows tables.libraries.own library) file library else []

-- the warning of a use of a whole library, where the unit sees that library and it has files
abbrev pub noted : Tables → UnitId → List ℕ → List ℕ → List Warning
noted tables id own named = noted_where (table_sees tables.sets.now id named) tables id.file (named_library own named)

-- a name means a library in a unit that is visible there and looked into
abbrev pub is_inside : Tables → UnitId → List ℕ → List ℕ → Bool
is_inside tables id own named = table_sees tables.sets.now id named && not (stands_outside tables.libraries (named_library own named))

-- what was looked up last in a unit is so
abbrev pub IsLooked : Tables → UnitId → List ℕ → Looked → Type 0
IsLooked tables id own looked = looked.known ≡ true → looked.inside ≡ is_inside tables id own looked.name

-- the tables are those of a project's units
pub record Knows (project : Project) (units : List LinkUnit) (tables : Tables) : Type 0 where
  pub index : IsIndex project.files units tables.index
  pub libraries : AreLibraries project tables.libraries

-- a unit of a file, and the tables say what it sees
pub record Stands (units : List LinkUnit) (tables : Tables) (id : UnitId) (file : FileName) (unit : LinkUnit) : Type 0 where
  pub name : unit.file.name ≡ file
  pub library : unit.scope.library ≡ file.library
  pub position : unit.position ≡ id.file
  pub sees : (name : List ℕ) → table_sees tables.sets.now id name ≡ sees (map (λ other. other.scope) units) unit.scope name

-- some reference of a unit names a unit of the file at a position
abbrev pub refers_from : Project → List LinkUnit → LinkUnit → List Ref → ℕ → Bool
refers_from project units unit refs at = list_any (λ ref. stands_at (names_unit project units unit ref) units at) refs

-- of some references of a unit: the first that is missing, and else the files that they refer to are put in
abbrev pub LinksRefs : {T : Type 0} → Project → List LinkUnit → LinkUnit → List Ref → PositionSet → PositionSet → Result T LinkFault → Type 0
LinksRefs project units unit refs old new result = GivesOrFaults (first_some (map (missing_of project units unit) refs)) (λ value. HasAdded (refers_from project units unit refs) old new) result

-- the first that is missing of a unit
abbrev pub unit_lacks : Project → List LinkUnit → LinkUnit → Option LinkFault
unit_lacks project units unit = first_some (map (missing_of project units unit) unit.refs)

-- the tables say what each unit of a file sees
abbrev pub StandAll : List LinkUnit → Tables → ℕ → ProjectFile → List ℕ → Scan → Type 0
StandAll units tables at file text scan = (number : ℕ) (design : DesignUnit) → slice_get scan.units number ≡ Some design → Stands units tables (record { file = at; unit = number }) file.name (link_unit at file text scan design)

-- of some units of a file: the first that is missing, and else the files that they refer to are put in, and their
-- uses of whole libraries are added
abbrev pub FileGives : {T : Type 0} → Project → List LinkUnit → (DesignUnit → LinkUnit) → List DesignUnit → PositionSet → PositionSet → List Warning → List Warning → Result T LinkFault → Type 0
FileGives project units made designs old new before after result =
    GivesOrFaults (first_some (map (λ design. unit_lacks project units (made design)) designs))
    (λ value. HasAdded (λ at. list_any (λ design. refers_from project units (made design) (made design).refs at) designs) old new
    × (after ≡ before ++ flat_map (λ design. warnings_of project units (made design)) designs)) result

-- rows have the pairs that a project names
pub record AreRowsOf (project : Project) (rows : List PositionSet) : Type 0 where
  pub pairs : (user at : ℕ) → user < length project.files → at < FILE_LIMIT → is_in_row rows user at ≡ has_pair project.depends user at

-- the first that is missing, and else edges and warnings
abbrev pub GivesAll : Project → List LinkUnit → Result Linked LinkFault → Type 0
GivesAll project units result = GivesOrFaults (first_missing project units) (λ linked. linked ≡ record { edges = edges_of project units; warnings = flat_map (warnings_of project units) units }) result
