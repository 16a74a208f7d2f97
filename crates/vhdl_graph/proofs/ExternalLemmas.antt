-- References to libraries that aren't looked into: nothing is missing, and no unit of the project is named.
use Rattle.std.proofs.Common.{◌≡◌, ℕ, ◌==◌, Bool, true, false, not, ◌&&◌, ◌||◌, if◌then◌else◌, Option, None, List, get_or, refl, sym, ◌∙◌, ap}
use Rattle.std.specs.List.{All, list_any}
use Rattle.std.specs.Str.{bytes_eq}
use Rattle.std.proofs.lemmas.Bool.{false≢true}
use Rattle.std.proofs.lemmas.List.Folds.{list_any_at, list_any_none}
use Rattle.std.proofs.lemmas.Option.{get_or_from_slice_get, slice_get_within}
use Rattle.base.specs.declared.child.MaybeText.{MaybeText}
use Rattle.base.specs.declared.child.MaybeText.TheVariants.{Nothing, Given}
use Rattle.base.specs.declared.file.FileName.{FileName}
use Rattle.base.specs.declared.linking.LinkFault.{LinkFault}
use Rattle.base.specs.declared.project.Project.{Project}
use Rattle.base.specs.declared.project.ProjectFile.{ProjectFile}
use Rattle.base.specs.declared.refs.Ref.{Ref}
use Rattle.vhdl_spec.specs.References.{owner_name}
use Rattle.vhdl_spec.specs.Visibility.{is_secondary}
use Rattle.vhdl_spec.specs.Dependencies.{LinkUnit, has_files, in_library, is_architecture_kind, is_body, is_body_kind, is_external, is_given_architecture, is_one_of, is_package_kind, is_primary}
use Rattle.vhdl_spec.proofs.SomeTests.{and_false}
use Rattle.vhdl_graph.specs.declared.libraries.Libraries.{Libraries}
use Rattle.vhdl_graph.specs.Indexes.{IsOfFile}
use Rattle.vhdl_graph.specs.Libraries.{AreLibraries, always_external, knows}
use Rattle.vhdl_graph.specs.Meanings.{missing_in, missing_units, names_in}
use Rattle.vhdl_graph.specs.Rows.{stands_at}

-- what the program tests is what the definition says
pub external_is : (project : Project) (libraries : Libraries) (library : List ℕ) → AreLibraries project libraries → (not (knows libraries.own library) && knows libraries.external library) ≡ true → is_external project library ≡ true
external_is project libraries library are told =
    sym (ap (λ (b : Bool). not b && knows libraries.external library) (are.own library) ∙ ap (λ (b : Bool). not (has_files project library) && b) (are.external library)) ∙ told

not_first : (a b : Bool) → (not a && b) ≡ true → a ≡ false
not_first true b is = let never : ⊥ = cc in absurd never
not_first false b is = refl

none_where : (strict external : Bool) (fault : Option LinkFault) → external ≡ true → (if strict && not external then fault else None) ≡ None
none_where true external fault is = ap (λ (b : Bool). if true && not b then fault else None) is
none_where false external fault is = refl

pub none_missing_there : (project : Project) (units : List LinkUnit) (file : FileName) (library : List ℕ) (ref : Ref) → is_external project library ≡ true → missing_in project units file library ref ≡ None
none_missing_there project units file library ref is = none_where ref.strict (is_external project library) (missing_units units file library ref) is

-- no unit is of a library without files
not_in_library : (project : Project) (library : List ℕ) (unit : LinkUnit) → IsOfFile project.files unit → has_files project library ≡ false → in_library library unit ≡ false
not_in_library project library unit of none = by_test (bytes_eq unit.scope.library library) refl where
  by_test : (b : Bool) → bytes_eq unit.scope.library library ≡ b → bytes_eq unit.scope.library library ≡ false
  by_test false is = is
  by_test true is =
      let here : get_or project.files unit.position unit.file ≡ unit.file = get_or_from_slice_get project.files unit.position unit.file unit.file of.0 in
      let same : bytes_eq (get_or project.files unit.position unit.file).name.library library ≡ true = ap (λ (f : ProjectFile). bytes_eq f.name.library library) here ∙ (ap (λ (l : List ℕ). bytes_eq l library) (sym of.1) ∙ is) in
      absurd (false≢true (sym none ∙ list_any_at (λ (f : ProjectFile). bytes_eq f.name.library library) project.files unit.position unit.file (slice_get_within project.files unit.position unit.file of.0) same))

and_second : (a b c : Bool) → b ≡ false → (a && b && c) ≡ false
and_second true b c is = ap (λ (x : Bool). x && c) is
and_second false b c is = refl

and_second_of_four : (a b c d : Bool) → b ≡ false → (a && b && c && d) ≡ false
and_second_of_four true b c d is = ap (λ (x : Bool). x && c && d) is
and_second_of_four false b c d is = refl

no_architecture : (library entity : List ℕ) (named : MaybeText) (unit : LinkUnit) → in_library library unit ≡ false → is_given_architecture library entity named unit ≡ false
no_architecture library entity Nothing unit none = refl
no_architecture library entity (Given name) unit none = and_second_of_four (is_architecture_kind unit.scope.unit.kind) (in_library library unit) (bytes_eq (owner_name unit.scope.unit.owner) entity) (bytes_eq unit.scope.unit.name name) none

not_named : (bodies : Bool) (units : List LinkUnit) (library : List ℕ) (ref : Ref) (unit : LinkUnit) → in_library library unit ≡ false → names_in bodies units library ref unit ≡ false
not_named bodies units library ref unit none =
    let package_there : Bool = list_any (λ other. is_primary library ref.name other && is_package_kind other.scope.unit.kind) units in
    let given : Bool = is_given_architecture library ref.name ref.architecture unit in
    let body : Bool = bodies && is_body library ref.name unit && package_there in
    ap (λ (b : Bool). b || given || body) (and_second (not (is_secondary unit.scope.unit.kind)) (in_library library unit) (bytes_eq unit.scope.unit.name ref.name) none)
    ∙ (ap (λ (b : Bool). b || body) (no_architecture library ref.name ref.architecture unit none)
    ∙ and_second bodies (is_body library ref.name unit) package_there (and_second (is_body_kind unit.scope.unit.kind) (in_library library unit) (bytes_eq unit.scope.unit.name ref.name) none))

pub none_named_there : (project : Project) (units : List LinkUnit) (library : List ℕ) (ref : Ref) (at : ℕ) → All (IsOfFile project.files) units → is_external project library ≡ true → stands_at (names_in project.bodies units library ref) units at ≡ false
none_named_there project units library ref at of is =
    let none : has_files project library ≡ false = not_first (has_files project library) (is_one_of project.external library || is_one_of always_external library) is in
    list_any_none (λ (unit : LinkUnit). unit.position == at && names_in project.bodies units library ref unit) units
    (λ k d within. ap (λ (b : Bool). (get_or units k d).position == at && b) (not_named project.bodies units library ref (get_or units k d) (not_in_library project library (get_or units k d) (of k d within) none)) ∙ and_false ((get_or units k d).position == at))
