-- The design units of a project, as the program keeps them.
use Rattle.std.specs.Prelude.{◌≡◌, ℕ, ◌<◌, Bool, false, Contains, List, ◌++◌, [], length, map, take, slice_index}
use Rattle.std.specs.List.{AllZip, flat_map}
use Rattle.base.specs.declared.design.Scan.{Scan}
use Rattle.base.specs.declared.project.ProjectFile.{ProjectFile}
use Rattle.vhdl_spec.specs.References.{is_configuration}
use Rattle.vhdl_spec.specs.Visibility.{ScopeUnit, scope_unit, scope_units}
use Rattle.vhdl_outline.specs.declared.outlines.UnitScope.{UnitScope}
use Rattle.vhdl_scope.specs.declared.groups.Owned.{Owned}
use Rattle.vhdl_scope.specs.declared.links.Link.{Link}
use Rattle.vhdl_scope.specs.declared.want.Group.{Group}
use Rattle.vhdl_scope.specs.Names.{HasAll}
use Rattle.vhdl_scope.specs.Owned.{IsOwnedBy}
use Rattle.vhdl_scope.specs.Wants.{user_groups}
use Rattle.vhdl_scope.specs.Joins.{IsLinkedFor}
use Rattle.vhdl_scope.specs.declared.scope.Scopes.{Scopes}

-- the program's record of a unit
abbrev pub as_scope : ScopeUnit → UnitScope
as_scope unit = record { names = unit.names }

-- how many units the files before a file have
abbrev pub units_before : List ProjectFile → List (List ℕ) → List Scan → ℕ → ℕ
units_before files texts scans file = length (scope_units (take file files) (take file texts) (take file scans))

-- where groups of architectures aren't kept, no unit is a configuration, which alone wants them
abbrev pub NeedNoMore : Bool → List ScopeUnit → Type 0
NeedNoMore keeps units = keeps ≡ false → (user : ScopeUnit) → Contains units user → is_configuration user.unit.kind ≡ false

-- the groups that units are in have numbers, and each unit those of its own
pub record AreGrouped (keeps : Bool) (units : List ScopeUnit) (groups : List Group) (owned : List Owned) : Type 0 where
  pub all : HasAll (flat_map (user_groups keeps) units) [] groups
  pub each : AllZip (IsOwnedBy keeps groups) owned units
  pub enough : NeedNoMore keeps units

-- the groups of units are known by number, whether those of architectures are kept or not
pub record HasGroups (units : List ScopeUnit) (groups : List Group) (owned : List Owned) : Type 0 where
  pub keeps : Bool
  pub grouped : AreGrouped keeps units groups owned

-- the groups of the units of all files, and where the units of each file begin
pub record AreScopes (files : List ProjectFile) (texts : List (List ℕ)) (scans : List Scan) (scopes : Scopes) : Type 0 where
  pub grouped : HasGroups (scope_units files texts scans) scopes.groups scopes.owned.items
  pub each : length scopes.starts.items ≡ length files
  pub starts : (file : ℕ) → file < length files → slice_index scopes.starts.items file ≡ units_before files texts scans file

-- the links of the units of a file were added
abbrev pub AddsLinks : List (List ℕ) → List Group → ℕ → List ℕ → List ℕ → Scan → List (List Link) → List (List Link) → Type 0
AddsLinks names groups row_indices library text scan old new = (units : List ScopeUnit) → AllZip (IsLinkedFor names groups row_indices) old units → AllZip (IsLinkedFor names groups row_indices) new (units ++ map (scope_unit library text scan) scan.units)
