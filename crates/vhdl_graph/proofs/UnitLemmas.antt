-- What a unit uses and refers to, as read from its file.
use Rattle.std.proofs.Common.{◌≡◌, ℕ, Bool, true, false, ◌&&◌, Option, Some, None, List, [], ◌∷◌, ◌++◌, map, refl, sym, ◌∙◌, ap}
use Rattle.std.specs.Prelude.{if◌then◌else◌}
use Rattle.std.specs.List.{filter_map, flat_map}
use Rattle.std.proofs.lemmas.List.Elements.{filter_map-append}
use Rattle.base.specs.declared.design.UnitKind.TheVariants as kinds
use Rattle.base.specs.declared.file.FileName.{FileName}
use Rattle.base.specs.declared.linking.Warning.{Warning}
use Rattle.base.specs.declared.project.Project.{Project}
use Rattle.base.specs.declared.refs.UnitId.{UnitId}
use Rattle.vhdl_spec.specs.Visibility.{resolved, sees}
use Rattle.vhdl_spec.specs.Dependencies.{LinkUnit, has_files, warnings_of}
use Rattle.vhdl_scope.specs.Tables.{table_sees}
use Rattle.vhdl_graph.specs.declared.seen.Tables.{Tables}
use Rattle.vhdl_graph.specs.Libraries.{knows}
use Rattle.vhdl_graph.specs.Linking.{Knows, Stands, named_library, noted}

pub some_same : {X : Type 0} (x y : X) → ◌≡◌ {A = Option X} (Some x) (Some y) → x ≡ y
some_same x y e = cc

pub parts_map : {X Y Z : Type 0} (f : Y → List Z) (g : X → Y) (xs : List X) → flat_map (λ x. f (g x)) xs ≡ flat_map f (map g xs)
parts_map f g [] = refl
parts_map {X} {Y} {Z} f g (x ∷ xs) = ap (λ (rest : List Z). f (g x) ++ rest) (parts_map f g xs)

-- ## Warnings

one_noted : (s k : Bool) (warning : Warning) (h : List ℕ → Option Warning) (named : List ℕ) → h named ≡ (if s && k then Some warning else None) → (if s then (if k then warning ∷ [] else []) else []) ≡ filter_map h (named ∷ [])
one_noted true true warning h named is = rw is refl
one_noted true false warning h named is = rw is refl
one_noted false k warning h named is = rw is refl

abbrev warning_at : ℕ → List ℕ → Warning
warning_at file library = record { file = file; library = library }

module _ (project : Project) (units : List LinkUnit) (unit : LinkUnit) (tables : Tables) (id : UnitId) (file : FileName) (known : Knows project units tables) (stands : Stands units tables id file unit) where
  abbrev warning : List ℕ → Option Warning
  warning library = if sees (map (λ other. other.scope) units) unit.scope library && has_files project (resolved unit.scope library) then Some (warning_at unit.position (resolved unit.scope library)) else None

  warning_is : (named : List ℕ) → warning named ≡ (if table_sees tables.sets.now id named && knows tables.libraries.own (named_library file.library named) then Some (warning_at id.file (named_library file.library named)) else None)
  warning_is named =
      let means : resolved unit.scope named ≡ named_library file.library named = ap (λ (own : List ℕ). named_library own named) stands.library in
      ap (λ (b : Bool). if b && has_files project (resolved unit.scope named) then Some (warning_at unit.position (resolved unit.scope named)) else None) (sym (stands.sees named))
      ∙ (ap (λ (library : List ℕ). if table_sees tables.sets.now id named && has_files project library then Some (warning_at unit.position library) else None) means
      ∙ (ap (λ (b : Bool). if table_sees tables.sets.now id named && b then Some (warning_at unit.position (named_library file.library named)) else None) (sym (known.libraries.own (named_library file.library named)))
      ∙ ap (λ (at : ℕ). if table_sees tables.sets.now id named && knows tables.libraries.own (named_library file.library named) then Some (warning_at at (named_library file.library named)) else None) stands.position))

  noted_all : (names : List (List ℕ)) → flat_map (noted tables id file.library) names ≡ filter_map warning names
  noted_all [] = refl
  noted_all (named ∷ names) =
      ap (λ (rest : List Warning). noted tables id file.library named ++ rest) (noted_all names)
      ∙ (ap (λ (first : List Warning). first ++ filter_map warning names) (one_noted (table_sees tables.sets.now id named) (knows tables.libraries.own (named_library file.library named)) (warning_at id.file (named_library file.library named)) warning named (warning_is named))
      ∙ sym (filter_map-append warning (named ∷ []) names))

  pub noted_is : flat_map (noted tables id file.library) unit.whole ≡ warnings_of project units unit
  noted_is = noted_all unit.whole
