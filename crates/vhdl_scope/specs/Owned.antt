-- The groups that units are in, by number.
use Rattle.std.specs.Prelude.{◌≡◌, ℕ, ◌<◌, ◌≤◌, Bool, List, [], ◌∷◌, ◌++◌, Option, MatchOption, length, map}
use Rattle.std.specs.List.{AllZip, flat_map}
use Rattle.base.specs.declared.design.Scan.{Scan}
use Rattle.base.specs.declared.design.Unit.{Unit as DesignUnit}
use Rattle.vhdl_spec.specs.Visibility.{ScopeUnit, scope_unit}
use Rattle.vhdl_scope.specs.declared.groups.Owned.{Owned}
use Rattle.vhdl_scope.specs.declared.want.Group.{Group}
use Rattle.vhdl_scope.specs.Names.{HasAll, group_number}
use Rattle.vhdl_scope.specs.Wants.{context_group, kept_architectures, kept_groups, primary_group}

-- there is one group, and it has a number
pub record IsOnly (groups own : List Group) (number : ℕ) : Type 0 where
  pub group : Group
  pub only : own ≡ group ∷ []
  pub is : number ≡ group_number groups group
  pub within : number < length groups

-- there is a number where there is a group
abbrev pub IsNumbered : List Group → List Group → Option ℕ → Type 0
IsNumbered groups own number = MatchOption number (own ≡ []) (IsOnly groups own)

-- the numbers of the kept groups that a unit of a library is in
pub record IsOwned (keeps : Bool) (groups : List Group) (library : List ℕ) (unit : DesignUnit) (owned : Owned) : Type 0 where
  pub primary : IsNumbered groups (primary_group library unit) owned.primary
  pub context : IsNumbered groups (context_group library unit) owned.context
  pub architecture : IsNumbered groups (kept_architectures keeps library unit) owned.architecture

-- the numbers of the kept groups that a unit of a project is in
abbrev pub IsOwnedBy : Bool → List Group → Owned → ScopeUnit → Type 0
IsOwnedBy keeps groups owned user = IsOwned keeps groups user.library user.unit owned

-- groups were added, and each earlier group keeps its number
pub record HasGrown (old new : List Group) : Type 0 where
  pub long : length old ≤ length new
  pub same : (group : Group) → group_number old group < length old → group_number new group ≡ group_number old group

-- the groups of units were added, and the numbers of those of each unit
pub record AddsOwned (keeps : Bool) (library : List ℕ) (units : List DesignUnit) (old : List Group) (first : List Owned) (new : List Group) (owned : List Owned) : Type 0 where
  pub all : HasAll (flat_map (kept_groups keeps library) units) old new
  pub grown : HasGrown old new
  pub each : (users : List ScopeUnit) (text : List ℕ) (scan : Scan) → AllZip (IsOwnedBy keeps old) first users → AllZip (IsOwnedBy keeps new) owned (users ++ map (scope_unit library text scan) units)
