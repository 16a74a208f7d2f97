-- Which libraries a design unit sees (IEEE Std 1076-2008, clauses 12.2 and 13.1 to 13.4; that a context declaration sees
-- `work` and `std` is this project's own choice).
--
-- Sets of names grow in steps: a name is in the set of a step where the test of that step says so. The visible libraries
-- are the sets after enough steps that no set grows any more.
use Rattle.std.specs.Prelude.{ℕ, zero, suc, ◌*◌, Bool, true, false, ◌&&◌, ◌||◌, not, if◌then◌else◌, List, [], ◌∷◌, ◌++◌, length, map, codes, IsTrue, Contains}
use Rattle.std.specs.List.{flat_map, list_any}
use Rattle.std.specs.Str.{bytes_eq}
use Rattle.base.specs.declared.child.MaybeText.{MaybeText}
use Rattle.base.specs.declared.child.MaybeText.TheVariants.{Nothing, Given}
use Rattle.base.specs.declared.design.UnitKind.{UnitKind}
use Rattle.base.specs.declared.design.UnitKind.TheVariants as kinds
use Rattle.base.specs.declared.design.Scan.{Scan}
use Rattle.base.specs.declared.design.Unit.{Unit as DesignUnit}
use Rattle.base.specs.declared.project.ProjectFile.{ProjectFile}
use Rattle.base.specs.declared.refs.Ref.{Ref}
use Rattle.vhdl_spec.specs.References.{work, configured, context_refs, is_context_kind, library_names, owner_name}

-- ## Design units of a project

-- What decides the libraries that a unit sees. It has the library of its file, the names of its library clauses, its
-- references to context declarations, and the architecture that it configures, if it is a configuration.
pub record ScopeUnit : Type 0 where
  pub library : List ℕ
  pub unit : DesignUnit
  pub names : List (List ℕ)
  pub contexts : List Ref
  pub configured : MaybeText

-- what decides the libraries that a unit sees, read from the tokens of its file
abbrev pub scope_unit : List ℕ → List ℕ → Scan → DesignUnit → ScopeUnit
scope_unit library text scan unit = record { library = library; unit = unit; names = library_names text scan.tokens.list unit; contexts = context_refs text scan.tokens.list unit; configured = configured text scan.tokens.list unit }

-- the units of files with these texts and scans, file by file
abbrev pub scope_units : List ProjectFile → List (List ℕ) → List Scan → List ScopeUnit
scope_units (file ∷ files) (text ∷ texts) (scan ∷ scans) = map (scope_unit file.name.library text scan) scan.units ++ scope_units files texts scans
scope_units (file ∷ files) (text ∷ texts) [] = []
scope_units (file ∷ files) [] scans = []
scope_units [] texts scans = []

-- ## Who sees what another sees

-- the name of the primary unit that a secondary unit belongs to (13.1), and of the entity that a configuration configures:
-- the scope of what that declares extends into the configuration (12.2)
abbrev pub primary_name : UnitKind → DesignUnit → MaybeText
primary_name kinds.Architecture unit = unit.owner
primary_name kinds.Configuration unit = unit.owner
primary_name kinds.PackageBody unit = Given unit.name
primary_name _ unit = Nothing

-- an architecture or a package body
abbrev pub is_secondary : UnitKind → Bool
is_secondary kinds.Architecture = true
is_secondary kinds.PackageBody = true
is_secondary _ = false

-- an architecture
abbrev pub is_architecture_kind : UnitKind → Bool
is_architecture_kind kinds.Architecture = true
is_architecture_kind _ = false

-- whether there is a name, and it is this one
abbrev pub is_given : MaybeText → List ℕ → Bool
is_given Nothing name = false
is_given (Given other) name = bytes_eq other name

-- a primary unit, of any kind, of the unit's own library and with the name that it belongs to
abbrev pub is_primary_of : ScopeUnit → ScopeUnit → Bool
is_primary_of user primary = not (is_secondary primary.unit.kind) && bytes_eq primary.library user.library && is_given (primary_name user.unit.kind user.unit) primary.unit.name

-- the architecture that a configuration configures (3.4)
abbrev pub configured_name : UnitKind → MaybeText → MaybeText
configured_name kinds.Configuration name = name
configured_name _ name = Nothing

-- the architecture of its own library and of its entity that a configuration configures: the scope of what that declares
-- extends into the configuration too (12.2)
abbrev pub is_configured_by : ScopeUnit → ScopeUnit → Bool
is_configured_by user unit =
    is_architecture_kind unit.unit.kind && bytes_eq unit.library user.library && is_given user.unit.owner (owner_name unit.unit.owner) && is_given (configured_name user.unit.kind user.configured) unit.unit.name

-- what the other unit sees, the unit sees too
abbrev pub belongs_to : ScopeUnit → ScopeUnit → Bool
belongs_to user other = is_primary_of user other || is_configured_by user other

-- `work` is the library of the unit itself (13.2)
abbrev pub resolved : ScopeUnit → List ℕ → List ℕ
resolved user library = if bytes_eq library work then user.library else library

-- a context declaration that a reference by `context` names (13.3, 13.4)
abbrev pub is_context_of : ScopeUnit → Ref → ScopeUnit → Bool
is_context_of user ref context = is_context_kind context.unit.kind && bytes_eq context.library (resolved user ref.library) && bytes_eq context.unit.name ref.name

-- the libraries that each unit sees without a clause (13.2); a context declaration doesn't hand them on
abbrev pub is_implicit : List ℕ → Bool
is_implicit name = bytes_eq name work || bytes_eq name (codes "std")

-- ## The sets of each step

-- for each unit a set of library names, as a test
abbrev pub Sets : Type 0
Sets = ScopeUnit → List ℕ → Bool

-- `work`, `std` and the names of a unit's own library clauses (13.2)
abbrev pub is_own : Sets
is_own user name = is_implicit name || list_any (bytes_eq name) user.names

-- a unit that the unit belongs to sees the name
abbrev pub has_by_owner : List ScopeUnit → Sets → Sets
has_by_owner units sets user name = list_any (λ owner. belongs_to user owner && sets owner name) units

-- a context declaration hands the name on, and the library that it is named in is visible
abbrev pub has_by_context : List ScopeUnit → Sets → Sets
has_by_context units sets user name = not (is_implicit name) && list_any (λ ref. sets user ref.library && list_any (λ context. is_context_of user ref context && sets context name) units) user.contexts

-- the sets after one step more
abbrev pub grown : List ScopeUnit → Sets → Sets
grown units sets user name = sets user name || has_by_owner units sets user name || has_by_context units sets user name

-- The sets after the given number of steps. First a unit has `work`, `std` and the names of its own clauses; each step adds what
-- the units that it belongs to have, and what the context declarations that it refers to hand on. An architecture of
-- an entity with `library other;` before it has `other` after one step. Two contexts that refer to each other, one
-- with `library l;` inside and one with `library m;`, both have `l` and `m` after one step.
unfoldable pub seen_after : List ScopeUnit → ℕ → Sets
seen_after units zero = is_own
seen_after units (suc steps) = grown units (seen_after units steps)

-- as many steps as there are units, times the names in all their library clauses
abbrev pub enough_steps : List ScopeUnit → ℕ
enough_steps units = length units * length (flat_map (λ unit. unit.names) units)

-- a library is visible in a unit: it is in the sets after which none grows any more
abbrev pub sees : List ScopeUnit → Sets
sees units = seen_after units (enough_steps units)

-- ## Closed sets

-- no unit of a list lacks what its own clauses, the units that it belongs to and its context declarations give it
pub record AreClosed (units : List ScopeUnit) (sets : Sets) : Type 0 where
  pub own : (user : ScopeUnit) (name : List ℕ) → Contains units user → IsTrue (is_own user name) → IsTrue (sets user name)
  pub grown : (user : ScopeUnit) (name : List ℕ) → Contains units user → IsTrue (grown units sets user name) → IsTrue (sets user name)
