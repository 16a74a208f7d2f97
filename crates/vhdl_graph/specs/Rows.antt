-- Sets of positions that grow by tests.
use Rattle.std.specs.Prelude.{◌≡◌, ℕ, ◌==◌, Bool, false, ◌&&◌, ◌||◌, List, slice_get}
use Rattle.std.specs.List.{list_any}
use Rattle.std.specs.Option.{option_map_or}
use Rattle.base.specs.declared.project.Pair.{Pair}
use Rattle.base_collections.specs.declared.set.PositionSet.{PositionSet}
use Rattle.base_collections.specs.Positions.{has}
use Rattle.vhdl_spec.specs.Dependencies.{LinkUnit, is_package_kind}
use Rattle.vhdl_graph.specs.Keys.{DesignUnitKey, is_same_key, key_of}

-- the positions that pass a test were put into a set
abbrev pub HasAdded : (ℕ → Bool) → PositionSet → PositionSet → Type 0
HasAdded test old new = (at : ℕ) → has new at ≡ (has old at || test at)

-- a unit of a name stands in the file at a position
abbrev pub is_named_at : List LinkUnit → DesignUnitKey → ℕ → Bool
is_named_at units key at = list_any (λ unit. unit.position == at && is_same_key key (key_of unit)) units

-- a unit that passes a test stands in the file at a position
abbrev pub stands_at : (LinkUnit → Bool) → List LinkUnit → ℕ → Bool
stands_at test units at = list_any (λ unit. unit.position == at && test unit) units

-- a package has a name
abbrev pub has_package : List LinkUnit → DesignUnitKey → Bool
has_package units key = list_any (λ unit. is_same_key key (key_of unit) && is_package_kind unit.scope.unit.kind) units

-- a position is in the row of a file
abbrev pub is_in_row : List PositionSet → ℕ → ℕ → Bool
is_in_row rows file at = option_map_or (λ row. has row at) (slice_get rows file) false

-- a project says that a file depends on another
abbrev pub has_pair : List Pair → ℕ → ℕ → Bool
has_pair pairs user used = list_any (λ pair. pair.user == user && pair.used == used) pairs
