-- Groups of units, by name.
use Rattle.std.specs.Prelude.{Bool}
use Rattle.vhdl_units.specs.KeyParts.{KeyParts, is_same_parts}
use Rattle.vhdl_scope.specs.declared.want.Group.{Group}

-- what tells groups apart
abbrev pub group_parts : Group → KeyParts
group_parts g = record { first = g.context; second = g.architecture; library = g.library; owner = g.owner; name = g.name }

-- two groups have the same kind, library, owner and name
abbrev pub is_same_group : Group → Group → Bool
is_same_group a b = is_same_parts (group_parts a) (group_parts b)
