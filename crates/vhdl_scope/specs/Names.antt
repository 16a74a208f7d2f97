-- Names and groups by number.
use Rattle.std.specs.Prelude.{◌≡◌, ℕ, List, [], ◌∷◌, position, slice_index_or, Contains, Option, codes}
use Rattle.std.specs.List.{position_or_len}
use Rattle.std.specs.Str.{bytes_eq}
use Rattle.vhdl_spec.specs.References.{work}
use Rattle.vhdl_scope.specs.declared.want.Group.{Group}
use Rattle.vhdl_scope.specs.Groups.{is_same_group}

-- a set of names
pub record NameSet : Type 0 where
  pub keys : List (List ℕ)

-- the names of a set of names, in order
abbrev pub keys_of : NameSet → List (List ℕ)
keys_of set = set.keys

-- each name is found by its number, and no other text is
abbrev pub AreFound : (List ℕ → Option ℕ) → List (List ℕ) → Type 0
AreFound find names = (name : List ℕ) → find name ≡ position (bytes_eq name) names

-- the number of a name: its first position, or how many there are
abbrev pub number_of : List (List ℕ) → List ℕ → ℕ
number_of names name = position_or_len (bytes_eq name) names

-- the name of a number
abbrev pub name_of_number : List (List ℕ) → ℕ → List ℕ
name_of_number names number = slice_index_or names number []

-- the number of a group
abbrev pub group_number : List Group → Group → ℕ
group_number groups group = position_or_len (is_same_group group) groups

-- elements were added where they weren't there, and none lost
pub record HasAll {X : Type 0} (more old new : List X) : Type 0 where
  pub added : (x : X) → Contains more x → Contains new x
  pub unchanged : (x : X) → Contains old x → Contains new x

-- the libraries that each unit sees without a clause
abbrev pub implicit : List (List ℕ)
implicit = work ∷ codes "std" ∷ []
