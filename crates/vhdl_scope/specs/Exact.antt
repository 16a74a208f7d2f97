-- What the rows, the names and the links of a project are, before and after they were grown.
use Rattle.std.specs.Prelude.{◌≡◌, ℕ, Bool, List, [], ◌++◌, length, map, replicate}
use Rattle.std.specs.List.{AllZip, flat_map}
use Rattle.vhdl_spec.specs.References.{work}
use Rattle.vhdl_spec.specs.Visibility.{ScopeUnit}
use Rattle.vhdl_scope.specs.declared.links.Link.{Link}
use Rattle.vhdl_outline.specs.declared.outlines.UnitScope.{UnitScope}
use Rattle.vhdl_scope.specs.declared.want.Group.{Group}
use Rattle.vhdl_scope.specs.Bits.{has}
use Rattle.vhdl_scope.specs.Links.{AreTaken, HasSpread}
use Rattle.vhdl_scope.specs.Names.{HasAll, implicit, number_of}
use Rattle.vhdl_scope.specs.Graph.{IsRowOf}
use Rattle.vhdl_scope.specs.Wants.{user_groups}
use Rattle.vhdl_scope.specs.Joins.{AreMembers, IsLinkedFor}
use Rattle.vhdl_scope.specs.Scopes.{NeedNoMore}

-- the links of the units that some users are, and of their groups, which are of this number
pub record AreLinked (users : List ScopeUnit) (names : List (List ℕ)) (count : ℕ) (links : List (List Link)) : Type 0 where
  pub keeps : Bool
  pub groups : List Group
  pub of_units : List (List Link)
  pub of_groups : List (List Link)
  pub as_many : count ≡ length groups
  pub are : links ≡ of_units ++ of_groups
  pub groups_are : HasAll (flat_map (user_groups keeps) users) [] groups
  pub enough : NeedNoMore keeps users
  pub links_are : AllZip (IsLinkedFor names groups (length users)) of_units users
  pub members_are : AreMembers keeps groups users (number_of names work) of_groups

-- rows that were grown from what units say, and from what they want
pub record AreGrown (units : List UnitScope) (users : List ScopeUnit) (names : List (List ℕ)) (rows : List (List ℕ)) : Type 0 where
  pub keeps : Bool
  pub groups : List Group
  pub words : ℕ
  pub first : List (List ℕ)
  pub of_units : List (List Link)
  pub of_groups : List (List Link)
  pub names_are : HasAll (implicit ++ flat_map (λ unit. unit.names) units) [] names
  pub groups_are : HasAll (flat_map (user_groups keeps) users) [] groups
  pub enough : NeedNoMore keeps users
  pub rows_are : AllZip (IsRowOf names words) first (map (λ unit. implicit ++ unit.names) units ++ replicate (length groups) (implicit ++ []))
  pub links_are : AllZip (IsLinkedFor names groups (length units)) of_units users
  pub members_are : AreMembers keeps groups users (number_of names work) of_groups
  pub spread : HasSpread (of_units ++ of_groups) first rows
  pub taken : AreTaken (of_units ++ of_groups) (has rows)
