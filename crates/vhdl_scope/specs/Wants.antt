-- What a unit is to others, and what it wants of them.
use Rattle.std.specs.Prelude.{ℕ, Bool, true, false, List, [], ◌∷◌, ◌++◌, map, if◌then◌else◌}
use Rattle.std.specs.Str.{bytes_eq}
use Rattle.base.specs.declared.child.MaybeText.{MaybeText}
use Rattle.base.specs.declared.child.MaybeText.TheVariants.{Nothing, Given}
use Rattle.base.specs.declared.design.Unit.{Unit as DesignUnit}
use Rattle.base.specs.declared.refs.Ref.{Ref}
use Rattle.vhdl_spec.specs.References.{work, is_context_kind, owner_name}
use Rattle.vhdl_spec.specs.Visibility.{ScopeUnit, configured_name, is_architecture_kind, is_secondary, primary_name}
use Rattle.vhdl_scope.specs.declared.want.Group.{Group}
use Rattle.vhdl_scope.specs.declared.want.Want.{Want}

-- the primary units of a name in a library, or the context declarations
abbrev pub group_of : Bool → List ℕ → List ℕ → Group
group_of context library name = record { context = context; architecture = false; library = library; owner = []; name = name }

-- the architectures of a name of an entity
abbrev pub architectures_of : List ℕ → List ℕ → List ℕ → Group
architectures_of library entity name = record { context = false; architecture = true; library = library; owner = entity; name = name }

-- the group of the primary units of a name that a unit of a library is in, if it is in one
abbrev pub primary_group : List ℕ → DesignUnit → List Group
primary_group library unit = if is_secondary unit.kind then [] else group_of false library unit.name ∷ []

-- the group of the context declarations of a name, in the same way
abbrev pub context_group : List ℕ → DesignUnit → List Group
context_group library unit = if is_context_kind unit.kind then group_of true library unit.name ∷ [] else []

-- the group of the architectures of a name of one entity, in the same way
abbrev pub architecture_group : List ℕ → DesignUnit → List Group
architecture_group library unit = if is_architecture_kind unit.kind then architectures_of library (owner_name unit.owner) unit.name ∷ [] else []

-- groups of architectures are kept only where a configuration may want one
abbrev pub kept_architectures : Bool → List ℕ → DesignUnit → List Group
kept_architectures keeps library unit = if keeps then architecture_group library unit else []

-- the groups that a unit of a library is in
abbrev pub own_groups : List ℕ → DesignUnit → List Group
own_groups library unit = primary_group library unit ++ (context_group library unit ++ architecture_group library unit)

-- the same, without those of architectures where they aren't kept
abbrev pub kept_groups : Bool → List ℕ → DesignUnit → List Group
kept_groups keeps library unit = primary_group library unit ++ (context_group library unit ++ kept_architectures keeps library unit)

-- the kept groups that a unit of a project is in
abbrev pub user_groups : Bool → ScopeUnit → List Group
user_groups keeps user = kept_groups keeps user.library user.unit

-- the primary units of a name in a library are wanted
abbrev pub primary_want : List ℕ → List ℕ → Want
primary_want library name = record { own = true; group = group_of false library name }

-- a secondary unit wants the primary units that it belongs to, and a configuration those of its entity's name
abbrev pub primary_wants : List ℕ → MaybeText → List Want
primary_wants library Nothing = []
primary_wants library (Given name) = primary_want library name ∷ []

-- the architectures of a name of an entity are wanted
abbrev pub architecture_want : List ℕ → List ℕ → List ℕ → Want
architecture_want library entity name = record { own = true; group = architectures_of library entity name }

-- a configuration of an entity wants the architecture that it configures
abbrev pub configured_wants : List ℕ → MaybeText → MaybeText → List Want
configured_wants library Nothing configured = []
configured_wants library (Given entity) Nothing = []
configured_wants library (Given entity) (Given name) = architecture_want library entity name ∷ []

-- a reference to a context declaration wants the context declarations of its name, where its library is visible
abbrev pub context_want : List ℕ → Ref → Want
context_want library ref = record { own = bytes_eq ref.library work; group = group_of true (if bytes_eq ref.library work then library else ref.library) ref.name }

-- the name of the library that a unit has to see to get what it wants: `work` is always seen
abbrev pub needed_library : Want → List ℕ
needed_library want = if want.own then work else want.group.library

-- what a unit of a library wants; a configuration configures this architecture
abbrev pub wants_of : List ℕ → DesignUnit → List Ref → MaybeText → List Want
wants_of library unit contexts configured = primary_wants library (primary_name unit.kind unit) ++ (configured_wants library unit.owner (configured_name unit.kind configured) ++ map (context_want library) contexts)

-- what a unit of a project wants of others
abbrev pub unit_wants : ScopeUnit → List Want
unit_wants unit = wants_of unit.library unit.unit unit.contexts unit.configured
