-- What references of units name and lack, one more and together.
use Rattle.std.proofs.Common.{◌≡◌, ℕ, ◌+◌, ◌<◌, Bool, true, false, ◌&&◌, ◌||◌, not, Option, Some, None, List, [], ◌∷◌, ◌++◌, length, map, get_or, take, drop, refl, sym, ◌∙◌, ap, subst}
use Rattle.std.specs.Prelude.{Result, Ok, Err, if◌then◌else◌}
use Rattle.std.specs.List.{list_any}
use Rattle.std.specs.Option.{option_or}
use Rattle.std.proofs.lemmas.List.Folds.{list_any_more}
use Rattle.base_collections.specs.declared.set.PositionSet.{PositionSet}
use Rattle.base.specs.declared.file.FileName.{FileName}
use Rattle.base.specs.declared.linking.LinkFault.{LinkFault}
use Rattle.base.specs.declared.project.Project.{Project}
use Rattle.base.specs.declared.refs.Ref.{Ref}
use Rattle.base.specs.declared.refs.UnitId.{UnitId}
use Rattle.vhdl_spec.specs.Dependencies.{LinkUnit, first_some, is_external, is_seen, library_of, missing_of, names_unit}
use Rattle.vhdl_scope.specs.Tables.{table_sees}
use Rattle.vhdl_spec.proofs.SomeTests.{and_false, and_true}
use Rattle.vhdl_graph.specs.declared.seen.Tables.{Tables}
use Rattle.vhdl_graph.specs.Indexes.{GivesOrFaults, IsFaultOf}
use Rattle.vhdl_graph.specs.Linking.{Stands, named_library}
use Rattle.vhdl_graph.specs.Meanings.{missing_in, missing_units, names_in}
use Rattle.vhdl_graph.specs.Rows.{HasAdded, stands_at}
use Rattle.vhdl_graph.proofs.IndexLemmas.{fault_on, mapped_more, mapped_split}
use Rattle.vhdl_graph.proofs.RowLemmas.{added_both, added_none, added_same, stands_never, stands_same}

-- the outcome for an equal fault, with a property that follows from the first one
pub gives_on : {T : Type 0} (said other : Option LinkFault) (P Q : T → Type 0) (result : Result T LinkFault) → other ≡ said → ((value : T) → P value → Q value) → GivesOrFaults said P result → GivesOrFaults other Q result
gives_on said other P Q (Ok value) same on is = (same ∙ is.0, on value (is.1))
gives_on said other P Q (Err fault) same on is = fault_on said other fault (λ given e. same ∙ e) is

-- ## Visible libraries

module _ (project : Project) (units : List LinkUnit) (unit : LinkUnit) (ref : Ref) where
  missing_seen : is_seen units unit ref ≡ true → missing_of project units unit ref ≡ missing_in project units unit.file.name (library_of unit ref) ref
  missing_seen is =
      ap (λ (b : Bool). if ref.strict && b && not (is_external project (library_of unit ref)) then missing_units units unit.file.name (library_of unit ref) ref else None) is
      ∙ ap (λ (b : Bool). if b && not (is_external project (library_of unit ref)) then missing_units units unit.file.name (library_of unit ref) ref else None) (and_true ref.strict)

  pub missing_unseen : is_seen units unit ref ≡ false → missing_of project units unit ref ≡ None
  missing_unseen is =
      ap (λ (b : Bool). if ref.strict && b && not (is_external project (library_of unit ref)) then missing_units units unit.file.name (library_of unit ref) ref else None) is
      ∙ ap (λ (b : Bool). if b && not (is_external project (library_of unit ref)) then missing_units units unit.file.name (library_of unit ref) ref else None) (and_false ref.strict)

  names_seen : is_seen units unit ref ≡ true → (at : ℕ) → stands_at (names_unit project units unit ref) units at ≡ stands_at (names_in project.bodies units (library_of unit ref) ref) units at
  names_seen is at = stands_same (names_unit project units unit ref) (names_in project.bodies units (library_of unit ref) ref) units at (λ other. ap (λ (b : Bool). b && names_in project.bodies units (library_of unit ref) ref other) is)

  pub names_unseen : is_seen units unit ref ≡ false → (at : ℕ) → stands_at (names_unit project units unit ref) units at ≡ false
  names_unseen is at = stands_same (names_unit project units unit ref) (λ other. false) units at (λ other. ap (λ (b : Bool). b && names_in project.bodies units (library_of unit ref) ref other) is) ∙ stands_never units at

  module _ (tables : Tables) (id : UnitId) (file : FileName) (stands : Stands units tables id file unit) where
    pub linked_seen : {T : Type 0} (library : List ℕ) (old new : PositionSet) (result : Result T LinkFault) → table_sees tables.sets.now id ref.library ≡ true → named_library file.library ref.library ≡ library
        → GivesOrFaults (missing_in project units file library ref) (λ value. HasAdded (stands_at (names_in project.bodies units library ref) units) old new) result
        → GivesOrFaults (missing_of project units unit ref) (λ value. HasAdded (stands_at (names_unit project units unit ref) units) old new) result
    linked_seen {T} library old new result told means is =
        let seen : is_seen units unit ref ≡ true = sym (stands.sees ref.library) ∙ told in
        let same : library ≡ library_of unit ref = sym means ∙ ap (λ (own : List ℕ). named_library own ref.library) (sym stands.library) in
        let here : GivesOrFaults (missing_in project units unit.file.name (library_of unit ref) ref) (λ (value : T). HasAdded (stands_at (names_in project.bodies units (library_of unit ref) ref) units) old new) result =
        subst (λ (f : FileName). GivesOrFaults (missing_in project units f (library_of unit ref) ref) (λ (value : T). HasAdded (stands_at (names_in project.bodies units (library_of unit ref) ref) units) old new) result) (sym stands.name)
        (subst (λ (l : List ℕ). GivesOrFaults (missing_in project units file l ref) (λ (value : T). HasAdded (stands_at (names_in project.bodies units l ref) units) old new) result) same is) in
        gives_on (missing_in project units unit.file.name (library_of unit ref) ref) (missing_of project units unit ref) _ _ result (missing_seen seen)
        (λ value added. added_same (stands_at (names_in project.bodies units (library_of unit ref) ref) units) (stands_at (names_unit project units unit ref) units) old new added (λ at. sym (names_seen seen at))) here

    pub linked_unseen : (row : PositionSet) → table_sees tables.sets.now id ref.library ≡ false → (missing_of project units unit ref ≡ None) × HasAdded (stands_at (names_unit project units unit ref) units) row row
    linked_unseen row told =
        let unseen : is_seen units unit ref ≡ false = sym (stands.sees ref.library) ∙ told in
        (missing_unseen unseen, added_none (stands_at (names_unit project units unit ref) units) row (names_unseen unseen))

-- ## The first of some faults

none_first : (one rest : Option LinkFault) → option_or one rest ≡ None → (one ≡ None) × (rest ≡ None)
none_first None rest is = (refl, is)
none_first (Some fault) rest is = let never : ⊥ = cc in absurd never

pub none_append : (xs ys : List (Option LinkFault)) → first_some xs ≡ None → first_some (xs ++ ys) ≡ first_some ys
none_append [] ys is = refl
none_append (one ∷ xs) ys is =
    let parts = none_first one (first_some xs) is in
    ap (λ (o : Option LinkFault). option_or o (first_some (xs ++ ys))) (parts.0) ∙ none_append xs ys (parts.1)

pub or_nothing : (o : Option LinkFault) → option_or o None ≡ o
or_nothing None = refl
or_nothing (Some fault) = refl

pub first_more : {X : Type 0} (f : X → Option LinkFault) (xs : List X) (i : ℕ) (x : X) → i < length xs → x ≡ get_or xs i x → first_some (map f (take i xs)) ≡ None → f x ≡ None → first_some (map f (take (i + 1) xs)) ≡ None
first_more f xs i x within is none here =
    ap first_some (mapped_more f xs i x within is) ∙ (none_append (map f (take i xs)) (f x ∷ []) none ∙ (or_nothing (f x) ∙ here))

pub first_here : {X : Type 0} (f : X → Option LinkFault) (xs : List X) (i : ℕ) (x : X) (fault : LinkFault) → i < length xs → x ≡ get_or xs i x → first_some (map f (take i xs)) ≡ None → IsFaultOf (f x) fault → IsFaultOf (first_some (map f xs)) fault
first_here f xs i x fault within is none here =
    fault_on (f x) (first_some (map f xs)) fault
    (λ given said. ap first_some (mapped_split f xs i x within is) ∙ (none_append (map f (take i xs)) (f x ∷ map f (drop (i + 1) xs)) none ∙ ap (λ (o : Option LinkFault). option_or o (first_some (map f (drop (i + 1) xs)))) said)) here

-- what passes with one element more
pub added_more : {X : Type 0} (test : X → ℕ → Bool) (xs : List X) (i : ℕ) (x : X) (old mid new : PositionSet) → i < length xs → x ≡ get_or xs i x → HasAdded (λ at. list_any (λ y. test y at) (take i xs)) old mid → HasAdded (test x) mid new → HasAdded (λ at. list_any (λ y. test y at) (take (i + 1) xs)) old new
added_more {X} test xs i x old mid new within is one two =
    added_both (λ at. list_any (λ y. test y at) (take i xs)) (test x) (λ at. list_any (λ y. test y at) (take (i + 1) xs)) old mid new one two
    (λ at. list_any_more (λ (y : X). test y at) xs i x within ∙ ap (λ (y : X). list_any (λ z. test z at) (take i xs) || test y at) (sym is))
