-- What a selection keeps, bench by bench.
use Rattle.std.proofs.Common.{◌≡◌, ℕ, suc, rules, tests, Bool, true, false, cond, not, List, [], ◌∷◌, ◌++◌, map, filter, length, refl, sym, ◌∙◌, ap}
use Rattle.std.specs.Prelude.{◌==◌}
use Rattle.std.specs.List.{flat_map}
use Rattle.std.proofs.lemmas.List.Elements.{filter-append}
use Rattle.base_outcomes.specs.declared.bench.Bench.{Bench}
use Rattle.base_outcomes.specs.declared.bench.TestCase.{TestCase}
use Rattle.testbench_select.specs.declared.pattern.PatternPart.{PatternPart}
use Rattle.testbench_select.specs.Selection.{bench_names, full_name, has_cases, is_selected, selected_bench, selection}

one_kept : {X Y : Type 0} (name : X → Y) (b : Bool) (x : X) (xs : List X) (ys : List Y) → map name xs ≡ ys → map name (cond b (x ∷ xs) xs) ≡ cond b (name x ∷ ys) ys
one_kept {X} {Y} name true x xs ys is = ap (λ (rest : List Y). name x ∷ rest) is
one_kept name false x xs ys is = is

-- the names of the elements whose name passes a test are the names that pass it
kept_names : {X Y : Type 0} (name : X → Y) (test : Y → Bool) (xs : List X) → map name (filter (λ x. test (name x)) xs) ≡ filter test (map name xs)
kept_names name test [] = refl
kept_names name test (x ∷ xs) = one_kept name (test (name x)) x (filter (λ y. test (name y)) xs) (filter test (map name xs)) (kept_names name test xs)

never_empty : (n : ℕ) → (suc n == 0) ≡ false
never_empty n = search (rules, tests)

-- a bench without cases has no names, so that it may be left out
left_out : (bench : Bench) (rest : List Bench) → flat_map bench_names (cond (has_cases bench) (bench ∷ rest) rest) ≡ bench_names bench ++ flat_map bench_names rest
left_out bench rest = by_cases bench.cases refl where
  by_cases : (cases : List TestCase) → bench.cases ≡ cases → flat_map bench_names (cond (not (length bench.cases == 0)) (bench ∷ rest) rest) ≡ map (full_name bench) bench.cases ++ flat_map bench_names rest
  by_cases [] is = rw is refl
  by_cases (first ∷ others) is =
      let some : (length bench.cases == 0) ≡ false = ap (λ (cs : List TestCase). length cs == 0) is ∙ never_empty (length others) in
      ap (λ (b : Bool). flat_map bench_names (cond (not b) (bench ∷ rest) rest)) some

pub selected_names : (patterns : List (List PatternPart)) (benches : List Bench) → flat_map bench_names (selection patterns benches) ≡ filter (is_selected patterns) (flat_map bench_names benches)
selected_names patterns [] = refl
selected_names patterns (bench ∷ benches) =
    left_out (selected_bench patterns bench) (selection patterns benches)
    ∙ ap (λ (rest : List (List ℕ)). bench_names (selected_bench patterns bench) ++ rest) (selected_names patterns benches)
    ∙ ap (λ (first : List (List ℕ)). first ++ filter (is_selected patterns) (flat_map bench_names benches)) (kept_names (full_name bench) (is_selected patterns) bench.cases)
    ∙ sym (filter-append (is_selected patterns) (bench_names bench) (flat_map bench_names benches))
