-- References whose libraries were looked up. If the library isn't visible or isn't looked into, the reference is not missing
-- and names no unit.
use Rattle.std.proofs.Common.{◌≡◌, ◌∙◌, Bool, true, false, not, ◌&&◌, Option, Some, None, List, [], ◌∷◌, ◌++◌, ℕ, map, refl, sym, ap}
use Rattle.std.specs.Prelude.{⊤, Result, Ok}
use Rattle.std.proofs.lemmas.List.{map-append}
use Rattle.std.proofs.lemmas.List.Folds.{list_any-append}
use Rattle.base.specs.declared.linking.LinkFault.{LinkFault}
use Rattle.base.specs.declared.file.FileName.{FileName}
use Rattle.base.specs.declared.project.Project.{Project}
use Rattle.base.specs.declared.refs.Ref.{Ref}
use Rattle.base.specs.declared.refs.UnitId.{UnitId}
use Rattle.base_collections.specs.declared.set.PositionSet.{PositionSet}
use Rattle.vhdl_spec.specs.Dependencies.{LinkUnit, first_some, is_external, missing_of, names_unit}
use Rattle.vhdl_scope.specs.Tables.{table_sees}
use Rattle.vhdl_spec.proofs.SomeTests.{or_none}
use Rattle.vhdl_graph.specs.declared.seen.Tables.{Tables}
use Rattle.vhdl_graph.specs.Indexes.{GivesOrFaults, IsFaultOf}
use Rattle.vhdl_graph.specs.Libraries.{stands_outside}
use Rattle.vhdl_graph.specs.Linking.{Knows, LinksRefs, Stands, is_inside, named_library, refers_from}
use Rattle.vhdl_graph.specs.Meanings.{names_in}
use Rattle.vhdl_graph.specs.Rows.{HasAdded, stands_at}
use Rattle.vhdl_graph.proofs.ExternalLemmas.{external_is, none_missing_there, none_named_there}
use Rattle.vhdl_graph.proofs.IndexLemmas.{fault_on}
use Rattle.vhdl_graph.proofs.LinkLemmas.{gives_on, linked_seen, linked_unseen, none_append, or_nothing}
use Rattle.vhdl_graph.proofs.RowLemmas.{added_both, added_none, added_same}

first_true : (a b : Bool) → (a && not b) ≡ true → a ≡ true
first_true true b is = refl
first_true false b is = let never : ⊥ = cc in absurd never

second_false : (a b : Bool) → (a && not b) ≡ true → b ≡ false
second_false true true is = let never : ⊥ = cc in absurd never
second_false true false is = refl
second_false false b is = let never : ⊥ = cc in absurd never

second_true : (a b : Bool) → a ≡ true → (a && not b) ≡ false → b ≡ true
second_true true true told is = refl
second_true true false told is = let never : ⊥ = cc in absurd never
second_true false b told is = let never : ⊥ = cc in absurd never

pub inside_seen : (tables : Tables) (id : UnitId) (own named : List ℕ) → is_inside tables id own named ≡ true → table_sees tables.sets.now id named ≡ true
inside_seen tables id own named is = first_true (table_sees tables.sets.now id named) (stands_outside tables.libraries (named_library own named)) is

pub inside_looked : (tables : Tables) (id : UnitId) (own named : List ℕ) → is_inside tables id own named ≡ true → stands_outside tables.libraries (named_library own named) ≡ false
inside_looked tables id own named is = second_false (table_sees tables.sets.now id named) (stands_outside tables.libraries (named_library own named)) is

module _ (project : Project) (units : List LinkUnit) (unit : LinkUnit) (ref : Ref) (tables : Tables) (id : UnitId) (file : FileName) (known : Knows project units tables) (stands : Stands units tables id file unit) (row : PositionSet) where
  abbrev library : List ℕ
  library = named_library file.library ref.library

  pub linked_outside : is_inside tables id file.library ref.library ≡ false → (missing_of project units unit ref ≡ None) × HasAdded (stands_at (names_unit project units unit ref) units) row row
  linked_outside outside = by_sees (table_sees tables.sets.now id ref.library) refl where
    by_sees : (b : Bool) → table_sees tables.sets.now id ref.library ≡ b → (missing_of project units unit ref ≡ None) × HasAdded (stands_at (names_unit project units unit ref) units) row row
    by_sees false told = linked_unseen project units unit ref tables id file stands row told
    by_sees true told =
        let is : is_external project library ≡ true = external_is project tables.libraries library known.libraries (second_true (table_sees tables.sets.now id ref.library) (stands_outside tables.libraries library) told outside) in
        linked_seen project units unit ref tables id file stands {T = ⊤} library row row (Ok tt) told refl (
          none_missing_there project units file library ref is,
          added_none (stands_at (names_in project.bodies units library ref) units) row (λ at. none_named_there project units library ref at known.index.of is),
        )

-- ## References one after the other

module _ (project : Project) (units : List LinkUnit) (unit : LinkUnit) where
  pub links_one : {T : Type 0} (ref : Ref) (old new : PositionSet) (result : Result T LinkFault) → GivesOrFaults (missing_of project units unit ref) (λ value. HasAdded (stands_at (names_unit project units unit ref) units) old new) result → LinksRefs project units unit (ref ∷ []) old new result
  links_one ref old new result is =
      gives_on (missing_of project units unit ref) (first_some (map (missing_of project units unit) (ref ∷ []))) _ _ result (or_nothing (missing_of project units unit ref))
      (λ value added. added_same (stands_at (names_unit project units unit ref) units) (refers_from project units unit (ref ∷ [])) old new added (λ at. sym (or_none (stands_at (names_unit project units unit ref) units at)))) is

  pub links_both : {T : Type 0} (refs more : List Ref) (old mid new : PositionSet) (result : Result T LinkFault) → (first_some (map (missing_of project units unit) refs) ≡ None) × HasAdded (refers_from project units unit refs) old mid → LinksRefs project units unit more mid new result → LinksRefs project units unit (refs ++ more) old new result
  links_both refs more old mid new result one two =
      gives_on (first_some (map (missing_of project units unit) more)) (first_some (map (missing_of project units unit) (refs ++ more))) _ _ result
      (ap first_some (map-append (missing_of project units unit) refs more) ∙ none_append (map (missing_of project units unit) refs) (map (missing_of project units unit) more) one.0)
      (λ value added. added_both (refers_from project units unit refs) (refers_from project units unit more) (refers_from project units unit (refs ++ more)) old mid new one.1 added
      (λ at. list_any-append (λ (ref : Ref). stands_at (names_unit project units unit ref) units at) refs more)) two

  some_append : (xs ys : List (Option LinkFault)) (fault : LinkFault) → first_some xs ≡ Some fault → first_some (xs ++ ys) ≡ Some fault
  some_append [] ys fault is = let never : ⊥ = cc in absurd never
  some_append (None ∷ xs) ys fault is = some_append xs ys fault is
  some_append (Some found ∷ xs) ys fault is = is

  pub lacks_first : (refs more : List Ref) (fault : LinkFault) → IsFaultOf (first_some (map (missing_of project units unit) refs)) fault → IsFaultOf (first_some (map (missing_of project units unit) (refs ++ more))) fault
  lacks_first refs more fault is =
      fault_on (first_some (map (missing_of project units unit) refs)) (first_some (map (missing_of project units unit) (refs ++ more))) fault
      (λ given said. ap first_some (map-append (missing_of project units unit) refs more) ∙ some_append (map (missing_of project units unit) refs) (map (missing_of project units unit) more) given said) is

pub map_twice : {X Y Z : Type 0} (f : Y → Z) (g : X → Y) (xs : List X) → map (λ (x : X). f (g x)) xs ≡ map f (map g xs)
map_twice f g [] = refl
map_twice {X} {Y} {Z} f g (x ∷ xs) = ap (λ (rest : List Z). f (g x) ∷ rest) (map_twice f g xs)
