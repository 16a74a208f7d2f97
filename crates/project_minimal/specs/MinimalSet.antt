-- The files that tests need: the least set that has the files of their entities and is closed under need. If a file is in
-- it, so is each file that this one needs itself (IEEE Std 1076-2008, clauses 3.3, 4.8, 7.3.3 and 13.5). It is this
-- project's choice that bodies and architectures come with what they belong to, and which components count.
use Rattle.std.specs.Prelude.{◌≡◌, ℕ, zero, suc, ◌<◌, ◌==◌, nat_lt, Bool, true, false, ◌&&◌, ◌||◌, Option, Some, None, List, [], length, filter, map, slice_get, slice_index}
use Rattle.std.specs.List.{list_any}
use Rattle.std.specs.Str.{bytes_eq}
use Rattle.base.specs.declared.design.Scan.{Scan}
use Rattle.base.specs.declared.design.Unit.{Unit as DesignUnit}
use Rattle.base.specs.declared.design.UnitKind.{UnitKind}
use Rattle.base.specs.declared.design.UnitKind.TheVariants as kinds
use Rattle.base.specs.declared.project.Project.{Project}
use Rattle.base.specs.declared.project.ProjectFile.{ProjectFile}
use Rattle.base.specs.PresentGraph.{below}
use Rattle.base_outcomes.specs.declared.bench.Bench.{Bench}
use Rattle.order.specs.BuildOrder.{deps_in}
use Rattle.vhdl_spec.specs.Dependencies.{is_architecture_kind, is_body_kind, is_one_of, is_package_kind}
use Rattle.vhdl_spec.specs.References.{owner_name}
use Rattle.vhdl_spec.specs.Visibility.{ScopeUnit, scope_unit, scope_units, sees}
use Rattle.vhdl_outline.specs.Components.{component_names}

-- ## The units of a project

-- The files of a project with their texts and scans, and what each depends on itself. Without dependencies the project
-- is a listed one, where each file depends on all before it.
pub record NeedSources : Type 0 where
  pub files : List ProjectFile
  pub texts : List (List ℕ)
  pub scans : List Scan
  pub edges : Option (List (List ℕ))

-- the files of a project with their texts, their scans and, unless the project is listed, the dependencies of each file
abbrev pub said_of : Project → List (List ℕ) → List Scan → Option (List (List ℕ)) → NeedSources
said_of project texts scans edges = record { files = project.files; texts = texts; scans = scans; edges = edges }

-- a design unit with the names of its components
pub record NeedUnit : Type 0 where
  pub scope : ScopeUnit
  pub components : List (List ℕ)

-- a unit with what decides the libraries that it sees, and with the names of its components
abbrev pub need_unit : List ℕ → List ℕ → Scan → DesignUnit → NeedUnit
need_unit library text scan unit = record { scope = scope_unit library text scan unit; components = component_names text scan.tokens.list unit }

-- the units of a file, and none where the file, its text or its scan is missing
abbrev pub units_of : Option ProjectFile → Option (List ℕ) → Option Scan → List NeedUnit
units_of (Some file) (Some text) (Some scan) = map (need_unit file.name.library text scan) scan.units
units_of (Some file) (Some text) None = []
units_of (Some file) None scan = []
units_of None text scan = []

-- the units of a file
unfoldable pub units_at : NeedSources → ℕ → List NeedUnit
units_at sources at = units_of (slice_get sources.files at) (slice_get sources.texts at) (slice_get sources.scans at)

-- ## What a file needs

-- a file depends on another itself
abbrev pub uses : Option (List (List ℕ)) → ℕ → ℕ → Bool
uses None user used = nat_lt used user
uses (Some edges) user used = list_any (λ dep. dep == used) (deps_in edges user)

-- an entity
abbrev pub is_entity_kind : UnitKind → Bool
is_entity_kind kinds.Entity = true
is_entity_kind _ = false

-- the other unit is an architecture of the entity (3.3)
abbrev pub has_architecture : ScopeUnit → ScopeUnit → Bool
has_architecture entity other =
    is_entity_kind entity.unit.kind && (is_architecture_kind other.unit.kind && (bytes_eq entity.unit.name (owner_name other.unit.owner) && bytes_eq entity.library other.library))

-- the other unit is the body of the package (4.8)
abbrev pub has_body : ScopeUnit → ScopeUnit → Bool
has_body owner other =
    is_package_kind owner.unit.kind && (is_body_kind other.unit.kind && (bytes_eq owner.unit.name other.unit.name && bytes_eq owner.library other.library))

-- a library is that of the unit itself, or visible in it
abbrev pub looks_into : List ScopeUnit → ScopeUnit → List ℕ → Bool
looks_into scopes user library = bytes_eq user.library library || sees scopes user library

-- A component of one of these names in a unit may be bound to the entity by default (7.3.3): the entity has its name, in a
-- library that the unit looks into.
abbrev pub may_bind : List ScopeUnit → ScopeUnit → List (List ℕ) → ScopeUnit → Bool
may_bind scopes user names entity = looks_into scopes user entity.library && (is_entity_kind entity.unit.kind && is_one_of names entity.unit.name)

-- a unit needs another, besides what its file depends on
abbrev pub wants : List ScopeUnit → NeedUnit → NeedUnit → Bool
wants scopes unit other = has_architecture unit.scope other.scope || (has_body unit.scope other.scope || may_bind scopes unit.scope unit.components other.scope)

-- all units of the project, with what decides the libraries that they see
abbrev pub scopes_of : NeedSources → List ScopeUnit
scopes_of sources = scope_units sources.files sources.texts sources.scans

-- a unit needs a unit of a file
abbrev pub wants_of : NeedSources → NeedUnit → ℕ → Bool
wants_of sources unit used = list_any (wants (scopes_of sources) unit) (units_at sources used)

-- a file needs another itself
unfoldable pub needs : NeedSources → ℕ → ℕ → Bool
needs sources user used = uses sources.edges user used || list_any (λ unit. wants_of sources unit used) (units_at sources user)

-- ## The least set

-- the file of the entity of a bench
abbrev pub is_tested : List Bench → ℕ → Bool
is_tested tests file = list_any (λ bench. bench.file == file) tests

-- what a set of files has, and what its files need
abbrev pub grown : NeedSources → (ℕ → Bool) → ℕ → Bool
grown sources set file = set file || list_any (λ user. set user && needs sources user file) (below (length sources.files))

-- the set after a number of steps
unfoldable pub needed_after : NeedSources → List Bench → ℕ → ℕ → Bool
needed_after sources tests zero = is_tested tests
needed_after sources tests (suc steps) = grown sources (needed_after sources tests steps)

-- A file is in the least set that has the files of some tests and what its own files need. As many steps as there are
-- files are enough. Where a bench in tb.vhd has a component `leaf`, the entity leaf is in leaf.vhd, and its
-- architecture in leaf_a.vhd, tb.vhd needs leaf.vhd, and this needs leaf_a.vhd.
abbrev pub is_needed : NeedSources → List Bench → ℕ → Bool
is_needed sources tests file = needed_after sources tests (length sources.files) file

-- the ranks in an order of the files that tests need
abbrev pub needed_ranks : NeedSources → List Bench → List ℕ → List ℕ
needed_ranks sources tests order = filter (λ rank. is_needed sources tests (slice_index order rank)) (below (length order))

-- a set of files has the files of some tests, and each file that one of its own files needs
pub record IsNeedy (sources : NeedSources) (tests : List Bench) (set : ℕ → Bool) : Type 0 where
  pub tested : (file : ℕ) → file < length sources.files → is_tested tests file ≡ true → set file ≡ true
  pub grown : (user used : ℕ) → user < length sources.files → used < length sources.files → set user ≡ true → needs sources user used ≡ true → set used ≡ true
