-- One unit more of an index of architectures, and what is found in it.
use Rattle.std.proofs.Common.{◌≡◌, ℕ, Bool, true, false, cond, ◌&&◌, Option, Some, None, List, [], ◌∷◌, ◌++◌, ◌<◌, append-nil, filter, get_or, length, refl, sym, ◌∙◌, ap, subst, arith}
use Rattle.std.specs.Prelude.{Ok, Err, if◌then◌else◌}
use Rattle.std.specs.Str.{bytes_eq}
use Rattle.base_collections.specs.Maps.{Entries, get}
use Rattle.std.proofs.lemmas.List.Elements.{filter-append, filter_passes}
use Rattle.base.specs.declared.refs.UnitId.{UnitId}
use Rattle.vhdl_spec.specs.Dependencies.{is_architecture_kind}
use Rattle.vhdl_spec.specs.References.{owner_name}
use Rattle.vhdl_spec.proofs.SomeTests.{and_cases}
use Rattle.testbench_scan.specs.Architectures.{AreFoundInFiles, HoldsArchitectures, IsArchitecture, first_of_some, one_more}
use Rattle.base_outcomes.specs.declared.bench.TestFault.TheVariants.{NoArchitecture, TwoArchitectures}
use Rattle.testbench_scan.specs.Benches.{ScannedFiles, bench_name, bench_of, bench_with, design_unit, is_architecture_of, unit_library}
use Rattle.vhdl_units.specs.UnitKeys.{is_same_unit, unit_key, units_decide}
use Rattle.testbench_scan.specs.Files.{IsInFiles}
use Rattle.testbench_scan.specs.declared.architectures.Architectures.{Architectures}
use Rattle.testbench_scan.specs.declared.files.Files.{Files}
use Rattle.vhdl_units.specs.declared.units.UnitKey.{UnitKey}

-- a key is given a value
abbrev Gives : Entries UnitKey Architectures → Entries UnitKey Architectures → UnitKey → Architectures → Type 0
Gives old new key more = (other : UnitKey) → get is_same_unit new other ≡ (if is_same_unit key other then Some more else get is_same_unit old other)

found_more : (xs : List UnitId) (id : UnitId) → first_of_some (xs ++ id ∷ []) ≡ Some (one_more (first_of_some xs) id)
found_more [] id = refl
found_more (x ∷ []) id = refl
found_more (x ∷ y ∷ xs) id = refl

turned : (a b : Bool) → (a && b) ≡ (b && a)
turned true true = refl
turned true false = refl
turned false true = refl
turned false false = refl

module _ (sources : ScannedFiles) (ids : List UnitId) (id : UnitId) where
  abbrev test : UnitKey → UnitId → Bool
  test k = is_architecture_of k.library k.name sources

  pushed : (k : UnitKey) (b : Bool) → test k id ≡ b → filter (test k) (ids ++ id ∷ []) ≡ filter (test k) ids ++ cond b (id ∷ []) []
  pushed k b told = filter-append (test k) ids (id ∷ []) ∙ ap (λ (c : Bool). filter (test k) ids ++ cond c (id ∷ []) []) told

  kept : (k : UnitKey) → test k id ≡ false → filter (test k) (ids ++ id ∷ []) ≡ filter (test k) ids
  kept k told = pushed k false told ∙ append-nil (filter (test k) ids)

  -- the unit is not an architecture
  pub holds_other : (index : Entries UnitKey Architectures) → HoldsArchitectures sources ids index → is_architecture_kind (design_unit sources id).kind ≡ false → HoldsArchitectures sources (ids ++ id ∷ []) index
  holds_other index holds other k = holds k ∙ sym (ap first_of_some (kept k (ap (λ (b : Bool). b && (bytes_eq (unit_library sources id) k.library && bytes_eq (owner_name (design_unit sources id).owner) k.name)) other)))

  -- it is one of the entity of a key
  pub holds_one : (old new : Entries UnitKey Architectures) (key : UnitKey) (more : Architectures) → HoldsArchitectures sources ids old → is_architecture_kind (design_unit sources id).kind ≡ true → key ≡ unit_key (unit_library sources id) (owner_name (design_unit sources id).owner) → more ≡ one_more (get is_same_unit old key) id → Gives old new key more → HoldsArchitectures sources (ids ++ id ∷ []) new
  holds_one old new key more holds right named is updates k = updates k ∙ by_key (is_same_unit key k) refl where
    tested : test k id ≡ is_same_unit key k
    tested = ap (λ (b : Bool). b && (bytes_eq (unit_library sources id) k.library && bytes_eq (owner_name (design_unit sources id).owner) k.name)) right ∙ turned (bytes_eq (unit_library sources id) k.library) _ ∙ ap (λ (e : UnitKey). is_same_unit e k) (sym named)

    by_key : (b : Bool) → is_same_unit key k ≡ b → cond b (Some more) (get is_same_unit old k) ≡ first_of_some (filter (test k) (ids ++ id ∷ []))
    by_key true told =
        let same : key ≡ k = (units_decide key k).0 told in
        ap (λ (m : Architectures). Some m) (is ∙ ap (λ (o : Option Architectures). one_more o id) (ap (get is_same_unit old) same ∙ holds k))
        ∙ sym (found_more (filter (test k) ids) id) ∙ sym (ap first_of_some (pushed k true (tested ∙ told)))
    by_key false told = holds k ∙ sym (ap first_of_some (kept k (tested ∙ told)))

-- every architecture that the index finds is in the files
pub found_in : (files : Files) (old new : Entries UnitKey Architectures) (key : UnitKey) (more : Architectures) → AreFoundInFiles files old → IsInFiles files more.first → Gives old new key more → AreFoundInFiles files new
found_in files old new key more are within updates other found told = by_key (is_same_unit key other) refl where
  by_key : (b : Bool) → is_same_unit key other ≡ b → IsInFiles files found.first
  by_key true is = let e : Some more ≡ Some found = sym (ap (λ (b : Bool). cond b (Some more) (get is_same_unit old other)) is) ∙ (sym (updates other) ∙ told) in let same : more ≡ found = cc in subst (λ (m : Architectures). IsInFiles files m.first) same within
  by_key false is = are other found (sym (ap (λ (b : Bool). cond b (Some more) (get is_same_unit old other)) is) ∙ (sym (updates other) ∙ told))

pub more_in : (files : Files) (found : Option Architectures) (id : UnitId) (more : Architectures) → IsInFiles files id → ((one : Architectures) → found ≡ Some one → IsInFiles files one.first) → more ≡ one_more found id → IsInFiles files more.first
more_in files None id more within are is = subst (λ (m : Architectures). IsInFiles files m.first) (sym is) within
more_in files (Some one) id more within are is = subst (λ (m : Architectures). IsInFiles files m.first) (sym is) (are one refl)

-- ## What is found of an entity

abbrev single_of : UnitId → Architectures
single_of first = record { first = first; several = false }

abbrev several_of : UnitId → Architectures
several_of first = record { first = first; several = true }

pub one_found : (sources : ScannedFiles) (entity : UnitId) (ids : List UnitId) (found : Architectures) → first_of_some ids ≡ Some found → found.several ≡ false → bench_with sources entity ids ≡ Ok (bench_of sources entity found.first)
one_found sources entity [] found is one = let no : ⊥ = cc in absurd no
one_found sources entity (first ∷ []) found is one =
    let same : single_of first ≡ found = cc in
    ap (λ (f : Architectures). Ok (bench_of sources entity f.first)) same
one_found sources entity (first ∷ second ∷ others) found is one =
    let same : several_of first ≡ found = cc in
    let never : true ≡ false = ap (λ (f : Architectures). f.several) same ∙ one in
    let no : ⊥ = cc in absurd no

first_there : (ids : List UnitId) (found : Architectures) (other : UnitId) → first_of_some ids ≡ Some found → (0 < length ids) × (get_or ids 0 other ≡ found.first)
first_there [] found other is = let no : ⊥ = cc in absurd no
first_there (first ∷ []) found other is = let same : single_of first ≡ found = cc in (omega arith, ap (λ (f : Architectures). f.first) same)
first_there (first ∷ second ∷ others) found other is = let same : several_of first ≡ found = cc in (omega arith, ap (λ (f : Architectures). f.first) same)

-- what is found is an architecture
pub first_right : (sources : ScannedFiles) (library entity : List ℕ) (ids : List UnitId) (found : Architectures) → first_of_some (filter (is_architecture_of library entity sources) ids) ≡ Some found → IsArchitecture sources found.first
first_right sources library entity ids found is =
    let test = is_architecture_of library entity sources in
    let there = first_there (filter test ids) found found.first is in
    let passes : test found.first ≡ true = ap test (sym (there.1)) ∙ filter_passes test ids 0 found.first (there.0) in
    (and_cases (is_architecture_kind (design_unit sources found.first).kind) _ passes).0

pub none_found : (sources : ScannedFiles) (entity : UnitId) (ids : List UnitId) → first_of_some ids ≡ None → bench_with sources entity ids ≡ Err (NoArchitecture (bench_name (unit_library sources entity) (design_unit sources entity).name))
none_found sources entity [] is = refl
none_found sources entity (first ∷ []) is = let no : ⊥ = cc in absurd no
none_found sources entity (first ∷ second ∷ others) is = let no : ⊥ = cc in absurd no

pub several_found : (sources : ScannedFiles) (entity : UnitId) (ids : List UnitId) (found : Architectures) → first_of_some ids ≡ Some found → found.several ≡ true → bench_with sources entity ids ≡ Err (TwoArchitectures (bench_name (unit_library sources entity) (design_unit sources entity).name))
several_found sources entity [] found is more = let no : ⊥ = cc in absurd no
several_found sources entity (first ∷ []) found is more =
    let same : single_of first ≡ found = cc in
    let never : false ≡ true = ap (λ (f : Architectures). f.several) same ∙ more in
    let no : ⊥ = cc in absurd no
several_found sources entity (first ∷ second ∷ others) found is more = refl
