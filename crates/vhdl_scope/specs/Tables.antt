-- The sets of all units of a project, as callers see them.
use Rattle.std.specs.Prelude.{◌≡◌, ℕ, ◌+◌, Bool, List, [], Some, filter, length, map, slice_get, slice_index, slice_index_or}
use Rattle.std.specs.List.{list_any}
use Rattle.std.specs.Str.{bytes_eq}
use Rattle.base.specs.declared.design.Scan.{Scan}
use Rattle.base.specs.declared.design.Unit.{Unit as DesignUnit}
use Rattle.base.specs.declared.project.ProjectFile.{ProjectFile}
use Rattle.base.specs.declared.refs.UnitId.{UnitId}
use Rattle.vhdl_spec.specs.Visibility.{ScopeUnit, scope_unit, scope_units, sees}
use Rattle.vhdl_scope.specs.Bits.{row_has}
use Rattle.vhdl_scope.specs.Names.{number_of}

-- for each file the number of units before it, and the names that each unit sees
pub record Table : Type 0 where
  pub starts : List ℕ
  pub sets : List (List (List ℕ))

-- the names of a row
abbrev pub row_names : List (List ℕ) → List ℕ → List (List ℕ)
row_names names row = filter (λ name. row_has row (number_of names name)) names

-- the table of rows of bits, one row a unit and one bit a name
unfoldable pub table_of : List ℕ → List (List ℕ) → List (List ℕ) → Table
table_of starts names rows = record { starts = starts; sets = map (row_names names) rows }

-- the names of the libraries that a unit sees, by a table
abbrev pub set_at : Table → UnitId → List (List ℕ)
set_at table unit = slice_index_or table.sets (slice_index table.starts unit.file + unit.unit) []

-- whether a unit sees a library, by a table
abbrev pub table_sees : Table → UnitId → List ℕ → Bool
table_sees table unit name = list_any (bytes_eq name) (set_at table unit)

-- the unit that has these positions in a project, of a file with this text and scan
pub record IsUnitAt (files : List ProjectFile) (texts : List (List ℕ)) (scans : List Scan) (id : UnitId) (user : ScopeUnit) : Type 0 where
  pub file : ProjectFile
  pub text : List ℕ
  pub scan : Scan
  pub unit : DesignUnit
  pub is_file : slice_get files id.file ≡ Some file
  pub is_text : slice_get texts id.file ≡ Some text
  pub is_scan : slice_get scans id.file ≡ Some scan
  pub is_unit : slice_get scan.units id.unit ≡ Some unit
  pub is : user ≡ scope_unit file.name.library text scan unit

-- a table says exactly which libraries are visible in each unit of a project
pub record AreVisible (files : List ProjectFile) (texts : List (List ℕ)) (scans : List Scan) (table : Table) : Type 0 where
  pub each : length table.starts ≡ length files
  pub sees : (id : UnitId) (user : ScopeUnit) → IsUnitAt files texts scans id user → (name : List ℕ) → table_sees table id name ≡ sees (scope_units files texts scans) user name
