-- Without a fault, full names are distinct, and each bench is the bench of one architecture.
use Rattle.std.proofs.Common.{◌≡◌, ◌≢◌, ◌⊎◌, inl, inr, ℕ, zero, suc, Bool, true, false, cond, Option, Some, None, List, [], ◌∷◌, ◌++◌, append_assoc, append-nil, map, get_or, refl, sym, ◌∙◌, ap, subst, arith}
use Rattle.std.specs.Prelude.{Result, Ok, Err}
use Rattle.std.specs.List.{AllPairs, Contains, flat_map, list_any}
use Rattle.std.specs.Option.{option_map, option_map_or, option_or}
use Rattle.std.specs.Str.{bytes_eq}
use Rattle.std.proofs.lemmas.List.Quantifiers.{all_pairs_push}
use Rattle.std.proofs.lemmas.List.Folds.{list_any_at}
use Rattle.std.proofs.lemmas.List.Elements.{Contains-append_cases}
use Rattle.std.proofs.lemmas.Slice.Eq.{bytes_eq-Decides}
use Rattle.base_outcomes.specs.declared.bench.Bench.{Bench}
use Rattle.base_outcomes.specs.declared.bench.TestFault.{TestFault}
use Rattle.base_outcomes.specs.declared.bench.TestFault.TheVariants.{BadName, DuplicateTest}
use Rattle.base.specs.declared.refs.UnitId.{UnitId}
use Rattle.vhdl_spec.specs.Dependencies.{is_one_of}
use Rattle.vhdl_spec.proofs.SomeTests.{Contains-later}
use Rattle.testbench_select.specs.Selection.{bench_names}
use Rattle.testbench_scan.specs.Benches.{IsBenchOfOne, ScannedFiles, architectures_of, bench_at, bench_fault, bench_name, bench_numbers, bench_of, bench_with, design_unit, first_bench_fault, first_repeated, found_bench, is_bad_case, names_of_found, tests_of, unit_library}

abbrev Distinct : List (List ℕ) → Type 0
Distinct names = AllPairs (λ a b. a ≢ b) names

-- a name that isn't among names differs from each
new_name : (names : List (List ℕ)) (name : List ℕ) → is_one_of names name ≡ false → Distinct names → Distinct (names ++ name ∷ [])
new_name names name new distinct = all_pairs_push (λ a b. a ≢ b) names name distinct (λ k d within same.
    let there : is_one_of names name ≡ true = list_any_at (bytes_eq name) names k d within ((bytes_eq-Decides name (get_or names k d)).1 (sym same)) in
    let never : true ≡ false = sym there ∙ new in cc)

none_if : (is : Bool) (name : List ℕ) (rest : Option (List ℕ)) → cond is (Some name) rest ≡ None → (is ≡ false) × (rest ≡ None)
none_if true name rest told = let no : ⊥ = cc in absurd no
none_if false name rest told = (refl, told)

new_names : (before names : List (List ℕ)) → first_repeated before names ≡ None → Distinct before → Distinct (before ++ names)
new_names before [] told distinct = subst Distinct (sym (append-nil before)) distinct
new_names before (name ∷ names) told distinct =
    let parts = none_if (is_one_of before name) name (first_repeated (before ++ name ∷ []) names) told in
    subst Distinct (append_assoc before (name ∷ []) names) (new_names (before ++ name ∷ []) names (parts.1) (new_name before name (parts.0) distinct))

none_map : (found : Option (List ℕ)) → option_map DuplicateTest found ≡ None → found ≡ None
none_map None told = refl
none_map (Some name) told = let no : ⊥ = cc in absurd no

none_bad : (is : Bool) (fault : TestFault) (rest : Option TestFault) → cond is (Some fault) rest ≡ None → rest ≡ None
none_bad true fault rest told = let no : ⊥ = cc in absurd no
none_bad false fault rest told = told

none_or : (one rest : Option TestFault) → option_or one rest ≡ None → (one ≡ None) × (rest ≡ None)
none_or None rest told = (refl, told)
none_or (Some fault) rest told = let no : ⊥ = cc in absurd no

new_bench : (before : List (List ℕ)) (found : Result Bench TestFault) → bench_fault before found ≡ None → Distinct before → Distinct (before ++ names_of_found found)
new_bench before (Err fault) told distinct = let no : ⊥ = cc in absurd no
new_bench before (Ok bench) told distinct =
    new_names before (bench_names bench) (none_map (first_repeated before (bench_names bench)) (none_bad (list_any (is_bad_case bench) bench.cases) (BadName (bench_name bench.library bench.name)) _ told)) distinct

all_new : (before : List (List ℕ)) (found : List (Result Bench TestFault)) → first_bench_fault before found ≡ None → Distinct before → Distinct (before ++ flat_map names_of_found found)
all_new before [] told distinct = subst Distinct (sym (append-nil before)) distinct
all_new before (one ∷ found) told distinct =
    let parts = none_or (bench_fault before one) (first_bench_fault (before ++ names_of_found one) found) told in
    subst Distinct (append_assoc before (names_of_found one) (flat_map names_of_found found)) (all_new (before ++ names_of_found one) found (parts.1) (new_bench before one (parts.0) distinct))

names_same : (found : List (Result Bench TestFault)) → flat_map names_of_found found ≡ flat_map bench_names (flat_map found_bench found)
names_same [] = refl
names_same (Ok bench ∷ found) = ap (λ (names : List (List ℕ)). bench_names bench ++ names) (names_same found)
names_same (Err fault ∷ found) = names_same found

-- if the result is a list of tests, there is no fault, and the tests are those of the list `all`
given : (fault : Option TestFault) (all tests : List Bench) → ◌≡◌ {A = Result (List Bench) TestFault} (option_map_or (λ f. Err f) fault (Ok all)) (Ok tests) → (fault ≡ None) × (all ≡ tests)
given None all tests told = (refl, cc)
given (Some fault) all tests told = let no : ⊥ = cc in absurd no

pub names_distinct : (sources : ScannedFiles) (tests : List Bench) → tests_of sources ≡ Ok tests → Distinct (flat_map bench_names tests)
names_distinct sources tests told =
    let found : List (Result Bench TestFault) = map (bench_at sources) (bench_numbers sources) in
    let parts = given (first_bench_fault [] found) (flat_map found_bench found) tests told in
    subst (λ (all : List Bench). Distinct (flat_map bench_names all)) (parts.1) (subst Distinct (names_same found) (all_new [] found (parts.0) (λ i j d before within. absurd (omega arith))))

-- ## Where a bench is from

abbrev IsFrom : ScannedFiles → List UnitId → Bench → Type 0
IsFrom sources ids bench = (entity : UnitId) × Contains ids entity × Contains (found_bench (bench_at sources entity)) bench

from_first : {X : Type 0} (x : X) (xs : List X) → Contains (x ∷ xs) x
from_first x xs = (0, omega arith, refl)

found_from : (sources : ScannedFiles) (ids : List UnitId) (bench : Bench) → Contains (flat_map found_bench (map (bench_at sources) ids)) bench → IsFrom sources ids bench
found_from sources [] bench (k, within, is) = absurd (omega arith)
found_from sources (id ∷ ids) bench there = by_part (Contains-append_cases (found_bench (bench_at sources id)) (flat_map found_bench (map (bench_at sources) ids)) bench there) (found_from sources ids bench) where
  by_part : Contains (found_bench (bench_at sources id)) bench ⊎ Contains (flat_map found_bench (map (bench_at sources) ids)) bench → (Contains (flat_map found_bench (map (bench_at sources) ids)) bench → IsFrom sources ids bench) → IsFrom sources (id ∷ ids) bench
  by_part (inl here) later = (id, from_first id ids, here)
  by_part (inr after) later = let from = later after in (from.0, Contains-later id (from.0) ids (from.1), from.2)

same_one : {X : Type 0} (x y : X) → Contains (x ∷ []) y → x ≡ y
same_one x y (zero, within, is) = is
same_one x y (suc k, within, is) = absurd (omega arith)

abbrev IsMade : ScannedFiles → UnitId → List UnitId → Bench → Type 0
IsMade sources entity ids bench = (architecture : UnitId) × (ids ≡ architecture ∷ []) × (bench ≡ bench_of sources entity architecture)

made_of : (sources : ScannedFiles) (entity : UnitId) (ids : List UnitId) (bench : Bench) → Contains (found_bench (bench_with sources entity ids)) bench → IsMade sources entity ids bench
made_of sources entity [] bench (k, within, is) = absurd (omega arith)
made_of sources entity (architecture ∷ []) bench there = (architecture, refl, sym (same_one (bench_of sources entity architecture) bench there))
made_of sources entity (first ∷ second ∷ others) bench (k, within, is) = absurd (omega arith)

pub bench_of_one : (sources : ScannedFiles) (tests : List Bench) (bench : Bench) → tests_of sources ≡ Ok tests → Contains tests bench → IsBenchOfOne sources bench
bench_of_one sources tests bench told there =
    let found : List (Result Bench TestFault) = map (bench_at sources) (bench_numbers sources) in
    let parts = given (first_bench_fault [] found) (flat_map found_bench found) tests told in
    let from = found_from sources (bench_numbers sources) bench (subst (λ (all : List Bench). Contains all bench) (sym (parts.1)) there) in
    let made = made_of sources (from.0) (architectures_of sources (unit_library sources (from.0)) (design_unit sources (from.0)).name) bench (from.2) in
    record { entity = from.0; architecture = made.0; named = from.1; alone = made.1; made = made.2 }
