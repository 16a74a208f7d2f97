-- Units that are found by name, and sets that grow by them.
use Rattle.std.proofs.Common.{◌≡◌, ℕ, ◌==◌, Bool, true, false, cond, ◌&&◌, ◌||◌, Option, Some, None, List, [], ◌∷◌, refl, sym, ◌∙◌, ap, subst}
use Rattle.std.specs.List.{list_any}
use Rattle.std.specs.Option.{option_map, option_map_or, is_some}
use Rattle.std.specs.Str.{bytes_eq}
use Rattle.std.proofs.lemmas.Slice.Eq.{bytes_eq-Decides}
use Rattle.base.specs.declared.project.ProjectFile.{ProjectFile}
use Rattle.order.proofs.Finds.{found_passes, found_within, none_passes}
use Rattle.base_collections.specs.declared.set.PositionSet.{PositionSet}
use Rattle.base_collections.specs.Positions.{has}
use Rattle.vhdl_spec.specs.Dependencies.{LinkUnit, is_package_kind}
use Rattle.vhdl_spec.proofs.SomeTests.{and_both, and_cases, and_false, and_swap, and_true, any_never, any_same, or_group, or_none, some_of}
use Rattle.vhdl_scope.proofs.Exact.{any_by}
use Rattle.vhdl_scope.proofs.TableLemmas.{both_ways}
use Rattle.vhdl_graph.specs.declared.index.UnitIndex.{UnitIndex}
use Rattle.vhdl_graph.specs.Indexes.{AreDistinct, index_of_unit, unit_named}
use Rattle.vhdl_graph.specs.Keys.{DesignUnitKey, is_same_key, key_of}
use Rattle.vhdl_graph.specs.Rows.{HasAdded, has_package, is_named_at, stands_at}
use Rattle.vhdl_graph.proofs.KeyLemmas.{same_key}

-- ## Tests of some unit

mixed : (p a b x y : Bool) → ((p && (a || b)) || (x || y)) ≡ (((p && a) || x) || ((p && b) || y))
mixed false a b x y = refl
mixed true true b x y = refl
mixed true false true true y = refl
mixed true false true false y = refl
mixed true false false true y = refl
mixed true false false false y = refl

pub stands_same : (f g : LinkUnit → Bool) (units : List LinkUnit) (at : ℕ) → ((unit : LinkUnit) → f unit ≡ g unit) → stands_at f units at ≡ stands_at g units at
stands_same f g units at same = any_same (λ u. u.position == at && f u) (λ u. u.position == at && g u) units (λ u. ap (λ (b : Bool). u.position == at && b) (same u))

pub stands_or : (f g : LinkUnit → Bool) (units : List LinkUnit) (at : ℕ) → stands_at (λ u. f u || g u) units at ≡ (stands_at f units at || stands_at g units at)
stands_or f g [] at = refl
stands_or f g (u ∷ units) at =
    ap (λ (b : Bool). (u.position == at && (f u || g u)) || b) (stands_or f g units at)
    ∙ mixed (u.position == at) (f u) (g u) (stands_at f units at) (stands_at g units at)

pub stands_never : (units : List LinkUnit) (at : ℕ) → stands_at (λ u. false) units at ≡ false
stands_never units at = any_same (λ (u : LinkUnit). u.position == at && false) (λ u. false) units (λ u. and_false (u.position == at)) ∙ any_never units

pub stands_where : (c d : Bool) (f : LinkUnit → Bool) (units : List LinkUnit) (at : ℕ) → stands_at (λ u. c && f u && d) units at ≡ (c && (stands_at f units at && d))
stands_where false d f units at = stands_never units at
stands_where true true f units at = stands_same (λ u. f u && true) f units at (λ u. and_true (f u)) ∙ sym (and_true (stands_at f units at))
stands_where true false f units at = stands_same (λ u. f u && false) (λ u. false) units at (λ u. and_false (f u)) ∙ (stands_never units at ∙ sym (and_false (stands_at f units at)))

-- ## Units of distinct names

some_none : {X : Type 0} (x : X) → ◌≡◌ {A = Option X} None (Some x) → ⊥
some_none x e = cc

-- a unit of a name passes a test where the first of this name does
pub by_name : (P : LinkUnit → Bool) (units : List LinkUnit) (key : DesignUnitKey) → AreDistinct units → list_any (λ u. P u && is_same_key key (key_of u)) units ≡ option_map_or P (unit_named units key) false
by_name P units key distinct = by_found (unit_named units key) refl where
  by_found : (found : Option LinkUnit) → unit_named units key ≡ found → list_any (λ u. P u && is_same_key key (key_of u)) units ≡ option_map_or P (unit_named units key) false
  by_found None is = rw is (both_ways (list_any (λ u. P u && is_same_key key (key_of u)) units) false none_there never) where
    none_there : list_any (λ u. P u && is_same_key key (key_of u)) units ≡ true → false ≡ true
    none_there told =
        let some = some_of (λ u. P u && is_same_key key (key_of u)) units told in
        let passes = and_cases (P some.0) (is_same_key key (key_of some.0)) some.2 in
        sym (none_passes (λ u. is_same_key key (key_of u)) units is some.0 some.1) ∙ passes.1

    never : false ≡ true → list_any (λ u. P u && is_same_key key (key_of u)) units ≡ true
    never told = let nothing : ⊥ = cc in absurd nothing
  by_found (Some first) is = rw is (both_ways (list_any (λ u. P u && is_same_key key (key_of u)) units) (P first) the_one there) where
    the_one : list_any (λ u. P u && is_same_key key (key_of u)) units ≡ true → P first ≡ true
    the_one told =
        let some = some_of (λ u. P u && is_same_key key (key_of u)) units told in
        let passes = and_cases (P some.0) (is_same_key key (key_of some.0)) some.2 in
        let here : is_same_key key (key_of first) ≡ true = found_passes (λ u. is_same_key key (key_of u)) units first is in
        let one : some.0 ≡ first = distinct some.0 first some.1 (found_within (λ u. is_same_key key (key_of u)) units first is) (sym (same_key key (key_of some.0) (passes.1)) ∙ same_key key (key_of first) here) in
        subst (λ (u : LinkUnit). P u ≡ true) one (passes.0)

    there : P first ≡ true → list_any (λ u. P u && is_same_key key (key_of u)) units ≡ true
    there told =
        any_by (λ u. P u && is_same_key key (key_of u)) units first (found_within (λ u. is_same_key key (key_of u)) units first is)
        (and_both (P first) (is_same_key key (key_of first)) told (found_passes (λ u. is_same_key key (key_of u)) units first is))

-- whether there is a unit of a name
pub any_named : (units : List LinkUnit) (key : DesignUnitKey) → is_some (option_map index_of_unit (unit_named units key)) ≡ list_any (λ u. is_same_key key (key_of u)) units
any_named [] key = refl
any_named (u ∷ units) key = by_test (is_same_key key (key_of u)) refl (any_named units key) where
  by_test : (b : Bool) → is_same_key key (key_of u) ≡ b → is_some (option_map index_of_unit (unit_named units key)) ≡ list_any (λ u. is_same_key key (key_of u)) units → is_some (option_map index_of_unit (cond b (Some u) (unit_named units key))) ≡ (b || list_any (λ u. is_same_key key (key_of u)) units)
  by_test true told rest = refl
  by_test false told rest = rest

-- where the unit of a name stands
at_index : (at : ℕ) (found : Option LinkUnit) → option_map_or (λ (p : UnitIndex). p.file == at) (option_map index_of_unit found) false ≡ option_map_or (λ (u : LinkUnit). u.position == at) found false
at_index at None = refl
at_index at (Some u) = refl

pub put_at : (units : List LinkUnit) (key : DesignUnitKey) (unit_index : Option UnitIndex) (at : ℕ) → AreDistinct units → unit_index ≡ option_map index_of_unit (unit_named units key) → option_map_or (λ (p : UnitIndex). p.file == at) unit_index false ≡ is_named_at units key at
put_at units key unit_index at distinct is =
    ap (λ (o : Option UnitIndex). option_map_or (λ (p : UnitIndex). p.file == at) o false) is ∙ (at_index at (unit_named units key) ∙ sym (by_name (λ u. u.position == at) units key distinct))

as_package : (found : Option LinkUnit) → option_map_or (λ (p : UnitIndex). p.is_package) (option_map index_of_unit found) false ≡ option_map_or (λ (u : LinkUnit). is_package_kind u.scope.unit.kind) found false
as_package None = refl
as_package (Some u) = refl

-- whether the unit of a name is a package
pub package_of : (units : List LinkUnit) (key : DesignUnitKey) (unit_index : Option UnitIndex) → AreDistinct units → unit_index ≡ option_map index_of_unit (unit_named units key) → option_map_or (λ (p : UnitIndex). p.is_package) unit_index false ≡ has_package units key
package_of units key unit_index distinct is =
    ap (λ (o : Option UnitIndex). option_map_or (λ (p : UnitIndex). p.is_package) o false) is
    ∙ (as_package (unit_named units key)
    ∙ (sym (by_name (λ u. is_package_kind u.scope.unit.kind) units key distinct)
    ∙ any_same (λ u. is_package_kind u.scope.unit.kind && is_same_key key (key_of u)) (λ u. is_same_key key (key_of u) && is_package_kind u.scope.unit.kind) units (λ u. and_swap (is_package_kind u.scope.unit.kind) (is_same_key key (key_of u)))))

-- ## Sets that grow

pub added_none : (test : ℕ → Bool) (old : PositionSet) → ((at : ℕ) → test at ≡ false) → HasAdded test old old
added_none test old never at = sym (ap (λ (b : Bool). has old at || b) (never at) ∙ or_none (has old at))

pub added_both : (first next both : ℕ → Bool) (old mid new : PositionSet) → HasAdded first old mid → HasAdded next mid new → ((at : ℕ) → both at ≡ (first at || next at)) → HasAdded both old new
added_both first next both old mid new one two is at =
    two at ∙ (ap (λ (b : Bool). b || next at) (one at) ∙ (or_group (has old at) (first at) (next at) ∙ ap (λ (b : Bool). has old at || b) (sym (is at))))

pub added_same : (test other : ℕ → Bool) (old new : PositionSet) → HasAdded test old new → ((at : ℕ) → test at ≡ other at) → HasAdded other old new
added_same test other old new is same at = is at ∙ ap (λ (b : Bool). has old at || b) (same at)

-- ## Libraries

bytes_swap : (a b : List ℕ) → bytes_eq a b ≡ bytes_eq b a
bytes_swap a b = both_ways (bytes_eq a b) (bytes_eq b a) (turn a b) (turn b a) where
  turn : (x y : List ℕ) → bytes_eq x y ≡ true → bytes_eq y x ≡ true
  turn x y told = (bytes_eq-Decides y x).1 (sym ((bytes_eq-Decides x y).0 told))

pub files_of : (files : List ProjectFile) (name : List ℕ) → list_any (λ file. bytes_eq name file.name.library) files ≡ list_any (λ file. bytes_eq file.name.library name) files
files_of files name = any_same (λ (file : ProjectFile). bytes_eq name file.name.library) (λ file. bytes_eq file.name.library name) files (λ file. bytes_swap name file.name.library)
