-- The components that a design unit declares, or instantiates by that word (IEEE Std 1076-2008, clauses 6.8 and 11.7): the
-- NAME after each `component`. After `end` the word says what ends.
use Rattle.std.specs.Prelude.{ℕ, ◌+◌, ◌&&◌, not, Bool, true, false, List, map}
use Rattle.base.specs.declared.design.Role.{Role}
use Rattle.base.specs.declared.design.Role.TheVariants.{Component, End}
use Rattle.base.specs.declared.design.Unit.{Unit as DesignUnit}
use Rattle.base.specs.declared.lexical.Token.{Token}
use Rattle.vhdl_spec.specs.Passing.{HasPassedOver, NonePasses}
use Rattle.vhdl_spec.specs.References.{is_name, indices, role_before}
use Rattle.vhdl_spec.specs.Units.{name_of, role_at, roles_of}

-- `component`
abbrev pub is_component_word : Role → Bool
is_component_word Component = true
is_component_word _ = false

-- `end`
abbrev pub is_end_word : Role → Bool
is_end_word End = true
is_end_word _ = false

-- `component` NAME, and no `end` before them
abbrev pub is_component : List Role → ℕ → Bool
is_component roles at = is_component_word (role_at roles at) && is_name (role_at roles (at + 1)) && not (is_end_word (role_before roles at))

-- the token number of the NAME
abbrev pub name_index : ℕ → ℕ
name_index at = at + 1

-- the token numbers of the names of those from one token up to another, rising
abbrev pub components_between : List Role → ℕ → ℕ → List ℕ
components_between roles start end = map name_index (indices (is_component roles) start end)

-- the names of the components of a unit, in order
abbrev pub component_names : List ℕ → List Token → DesignUnit → List (List ℕ)
component_names text tokens unit = map (name_of text tokens) (components_between (roles_of text tokens) unit.lead unit.last)

-- ## What a walk passes over

-- a token is `component`
abbrev pub is_component_at : List Role → ℕ → Bool
is_component_at roles at = is_component_word (role_at roles at)

-- no token from one up to another is `component`
abbrev pub HasNoComponent : List Role → ℕ → ℕ → Type 0
HasNoComponent roles from end = NonePasses (is_component_at roles) from end

-- a walk that goes up to an index at most has passed over tokens that aren't `component`
abbrev pub HasPassedWords : List Role → ℕ → ℕ → ℕ → Type 0
HasPassedWords roles from end at = HasPassedOver (is_component_at roles) from end at
