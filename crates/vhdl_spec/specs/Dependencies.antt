-- Which files of a project depend on which (IEEE Std 1076-2008, clauses 13.1, 13.2 and 13.5), and the faults in the names
-- of its units. Which references count, and that a project names pairs of its own, is this project's choice.
use Rattle.std.specs.Prelude.{ℕ, suc, Bool, true, false, ◌&&◌, ◌||◌, not, ◌==◌, if◌then◌else◌, Option, Some, None, Result, Ok, Err, List, [], ◌∷◌, ◌++◌, length, map, filter, codes}
use Rattle.std.specs.List.{find, flat_map, list_any, filter_map}
use Rattle.std.specs.Option.{option_map, option_map_or, option_or}
use Rattle.std.specs.Str.{bytes_eq}
use Rattle.base.specs.declared.child.MaybeText.{MaybeText}
use Rattle.base.specs.declared.child.MaybeText.TheVariants.{Nothing, Given}
use Rattle.base.specs.declared.design.Scan.{Scan}
use Rattle.base.specs.declared.design.Unit.{Unit as DesignUnit}
use Rattle.base.specs.declared.design.UnitKind.{UnitKind}
use Rattle.base.specs.declared.design.UnitKind.TheVariants as kinds
use Rattle.base.specs.declared.file.FileName.{FileName}
use Rattle.base.specs.declared.linking.LinkFault.{LinkFault}
use Rattle.base.specs.declared.linking.LinkFault.TheVariants.{DuplicateUnit, MissingUnit, MissingArchitecture}
use Rattle.base.specs.declared.linking.Linked.{Linked}
use Rattle.base.specs.declared.linking.Warning.{Warning}
use Rattle.base.specs.declared.project.Project.{Project}
use Rattle.base.specs.declared.project.ProjectFile.{ProjectFile}
use Rattle.base.specs.declared.refs.Ref.{Ref}
use Rattle.base.specs.PresentGraph.{below}
use Rattle.vhdl_spec.specs.References.{owner_name, refs_of, uses_of_all}
use Rattle.vhdl_spec.specs.Units.{roles_of, name_of}
use Rattle.vhdl_spec.specs.Visibility.{ScopeUnit, scope_unit, is_secondary, resolved, sees}
pub use Rattle.vhdl_spec.specs.Visibility.{is_architecture_kind}

-- ## The units of a project

-- a unit, with its file and the file's position in the project, its references, and the libraries that it uses whole
pub record LinkUnit : Type 0 where
  pub file : ProjectFile
  pub position : ℕ
  pub scope : ScopeUnit
  pub refs : List Ref
  pub whole : List (List ℕ)

-- a unit of a file, by the file's position, text and scan
abbrev pub link_unit : ℕ → ProjectFile → List ℕ → Scan → DesignUnit → LinkUnit
link_unit position file text scan unit = record { file = file; position = position; scope = scope_unit file.name.library text scan unit; refs = refs_of text scan.tokens.list unit; whole = map (name_of text scan.tokens.list) (uses_of_all (roles_of text scan.tokens.list) unit) }

-- the units of the files from a position on, in project and unit order
abbrev pub link_units : ℕ → List ProjectFile → List (List ℕ) → List Scan → List LinkUnit
link_units position (file ∷ files) (text ∷ texts) (scan ∷ scans) = map (link_unit position file text scan) scan.units ++ link_units (suc position) files texts scans
link_units position (file ∷ files) (text ∷ texts) [] = []
link_units position (file ∷ files) [] scans = []
link_units position [] texts scans = []

-- ## Units by name

-- whether the file of a unit is in a library
abbrev pub in_library : List ℕ → LinkUnit → Bool
in_library library unit = bytes_eq unit.scope.library library

-- a primary unit of a library and a name, of any kind (13.1)
abbrev pub is_primary : List ℕ → List ℕ → LinkUnit → Bool
is_primary library name unit = not (is_secondary unit.scope.unit.kind) && in_library library unit && bytes_eq unit.scope.unit.name name

-- an architecture of an entity of a library (3.3)
abbrev pub is_architecture : List ℕ → List ℕ → List ℕ → LinkUnit → Bool
is_architecture library entity name unit = is_architecture_kind unit.scope.unit.kind && in_library library unit && bytes_eq (owner_name unit.scope.unit.owner) entity && bytes_eq unit.scope.unit.name name

-- the body of a package
abbrev pub is_body_kind : UnitKind → Bool
is_body_kind kinds.PackageBody = true
is_body_kind _ = false

-- the body of a package of a library (4.8)
abbrev pub is_body : List ℕ → List ℕ → LinkUnit → Bool
is_body library name unit = is_body_kind unit.scope.unit.kind && in_library library unit && bytes_eq unit.scope.unit.name name

-- a package, not its body
abbrev pub is_package_kind : UnitKind → Bool
is_package_kind kinds.Package = true
is_package_kind _ = false

-- ## Two units of one name

-- a unit of the same name as this one: primary, an architecture of the same entity, or a body
abbrev pub is_alike : LinkUnit → LinkUnit → Bool
is_alike unit other =
    is_primary unit.scope.library unit.scope.unit.name other && not (is_secondary unit.scope.unit.kind)
    || is_architecture unit.scope.library (owner_name unit.scope.unit.owner) unit.scope.unit.name other && is_architecture_kind unit.scope.unit.kind
    || is_body unit.scope.library unit.scope.unit.name other && is_body_kind unit.scope.unit.kind

-- the name by which a duplicate unit is reported
abbrev pub spelled_by : List ℕ → DesignUnit → UnitKind → List ℕ
spelled_by library unit kinds.Architecture = library ++ (codes "." ++ (owner_name unit.owner ++ (codes "(" ++ (unit.name ++ codes ")"))))
spelled_by library unit kinds.PackageBody = codes "body " ++ (library ++ (codes "." ++ unit.name))
spelled_by library unit _ = library ++ (codes "." ++ unit.name)

-- the fault of two units of one name, with the files of both
abbrev pub duplicate_of : LinkUnit → LinkUnit → LinkFault
duplicate_of first second = DuplicateUnit (spelled_by second.scope.library second.scope.unit second.scope.unit.kind) first.file.name second.file.name

-- the first unit after these that is alike to one before it
abbrev pub first_duplicate : List LinkUnit → List LinkUnit → Option LinkFault
first_duplicate before [] = None
first_duplicate before (unit ∷ rest) = option_or (option_map (λ first. duplicate_of first unit) (find (is_alike unit) before)) (first_duplicate (before ++ unit ∷ []) rest)

-- ## Missing units

-- whether a name is in a list
abbrev pub is_one_of : List (List ℕ) → List ℕ → Bool
is_one_of names name = list_any (bytes_eq name) names

-- a library with files in the project
abbrev pub has_files : Project → List ℕ → Bool
has_files project library = list_any (λ file. bytes_eq file.name.library library) project.files

-- a library that isn't looked into: one that the project names, or one that is always outside of it
abbrev pub is_external : Project → List ℕ → Bool
is_external project library = not (has_files project library) && (is_one_of project.external library || is_one_of (codes "std" ∷ codes "ieee" ∷ codes "vunit_lib" ∷ []) library)

-- the reference has a visible library
abbrev pub is_seen : List LinkUnit → LinkUnit → Ref → Bool
is_seen units unit ref = sees (map (λ other. other.scope) units) unit.scope ref.library

-- the library that a reference means
abbrev pub library_of : LinkUnit → Ref → List ℕ
library_of unit ref = resolved unit.scope ref.library

-- the architecture that a reference names with an entity is missing
abbrev pub lacks_given : List LinkUnit → List ℕ → List ℕ → MaybeText → Bool
lacks_given units library entity Nothing = false
lacks_given units library entity (Given name) = not (list_any (is_architecture library entity name) units)

-- what is missing of a reference that can't mean anything but a unit, of a visible library that isn't external
abbrev pub missing_of : Project → List LinkUnit → LinkUnit → Ref → Option LinkFault
missing_of project units unit ref =
    if ref.strict && is_seen units unit ref && not (is_external project (library_of unit ref)) then
    (if not (list_any (is_primary (library_of unit ref) ref.name) units) then Some (MissingUnit unit.file.name (library_of unit ref) ref.name)
    else if lacks_given units (library_of unit ref) ref.name ref.architecture then Some (MissingArchitecture unit.file.name (library_of unit ref) ref.name (owner_name ref.architecture))
    else None)
    else None

-- the first fault of a list, if it has one
abbrev pub first_some : List (Option LinkFault) → Option LinkFault
first_some [] = None
first_some (one ∷ rest) = option_or one (first_some rest)

-- the first in project order, unit order and the order of references
abbrev pub first_missing : Project → List LinkUnit → Option LinkFault
first_missing project units = first_some (flat_map (λ unit. map (missing_of project units unit) unit.refs) units)

-- ## Depends

-- whether a unit is the architecture that a reference gives with its entity; none is, where it gives none
abbrev pub is_given_architecture : List ℕ → List ℕ → MaybeText → LinkUnit → Bool
is_given_architecture library entity Nothing unit = false
is_given_architecture library entity (Given name) unit = is_architecture library entity name unit

-- a reference of a unit names this unit: a primary unit, with its architecture where one is given, and, where users
-- depend on bodies, the body of a package
abbrev pub names_unit : Project → List LinkUnit → LinkUnit → Ref → LinkUnit → Bool
names_unit project units user ref unit =
    is_seen units user ref && (is_primary (library_of user ref) ref.name unit || is_given_architecture (library_of user ref) ref.name ref.architecture unit
    || project.bodies && is_body (library_of user ref) ref.name unit && list_any (λ other. is_primary (library_of user ref) ref.name other && is_package_kind other.scope.unit.kind) units)

-- some unit of the one file refers to some unit of the other
abbrev pub refers_to : Project → List LinkUnit → ℕ → ℕ → Bool
refers_to project units user used =
    list_any (λ unit. unit.position == user && list_any (λ ref. list_any (λ other. other.position == used && names_unit project units unit ref other) units) unit.refs) units

-- a file depends on another: by a reference, or since the project says so
abbrev pub depends_on : Project → List LinkUnit → ℕ → ℕ → Bool
depends_on project units user used = not (user == used) && (refers_to project units user used || list_any (λ pair. pair.user == user && pair.used == used) project.depends)

-- for each file of a project, the files that it depends on, rising
abbrev pub edges_of : Project → List LinkUnit → List (List ℕ)
edges_of project units = map (λ user. filter (depends_on project units user) (below (length project.files))) (below (length project.files))

-- ## Warnings

-- the uses of whole libraries of a unit that are visible and have files in the project
abbrev pub warnings_of : Project → List LinkUnit → LinkUnit → List Warning
warnings_of project units unit =
    filter_map (λ library. if sees (map (λ other. other.scope) units) unit.scope library && has_files project (resolved unit.scope library) then Some (record { file = unit.position; library = resolved unit.scope library }) else None) unit.whole

-- ## Linking

-- Which files depend on which and the warnings about it, or the first fault: two units of one name, or else a missing
-- unit or architecture. All are in project order, unit order and text order. With `use work.p.all; use work.all;
-- package a is end;` in a.vhd and `package p is end;` in b.vhd the edges are 1 of a.vhd, and the one warning is of
-- a.vhd.
abbrev pub link_of : Project → List LinkUnit → Result Linked LinkFault
link_of project units =
    option_map_or (λ fault. Err fault) (option_or (first_duplicate [] units) (first_missing project units)) (Ok (record { edges = edges_of project units; warnings = flat_map (warnings_of project units) units }))
