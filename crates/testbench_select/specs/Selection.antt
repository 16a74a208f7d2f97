-- Which tests of a list of benches patterns select: those whose full name some pattern matches. A test is named, and a
-- pattern read, as VUnit's command line does it: `LIBRARY.BENCH.CASE`, and a pattern matches the whole of such a name.
use Rattle.std.specs.Prelude.{ℕ, Bool, not, ◌==◌, List, ◌++◌, codes, filter, length, map, sum_by}
use Rattle.std.specs.List.{list_any}
use Rattle.base_outcomes.specs.declared.bench.Bench.{Bench}
use Rattle.base_outcomes.specs.declared.bench.TestCase.{TestCase}
use Rattle.testbench_select.specs.declared.pattern.PatternPart.{PatternPart}
use Rattle.testbench_select.specs.Segments.{is_match}

-- the library, the bench and the case, with a dot between them
abbrev pub full_name : Bench → TestCase → List ℕ
full_name bench test_case = bench.library ++ (codes "." ++ (bench.name ++ (codes "." ++ test_case.name)))

-- what the full names of a bench begin with: the library and the bench, with a dot after each
abbrev pub name_start : Bench → List ℕ
name_start bench = bench.library ++ (codes "." ++ (bench.name ++ codes "."))

-- the full names of the cases of a bench, in order
abbrev pub bench_names : Bench → List (List ℕ)
bench_names bench = map (full_name bench) bench.cases

-- how many cases all benches have
abbrev pub count_of_tests : List Bench → ℕ
count_of_tests tests = sum_by (λ bench. length bench.cases) tests

-- some pattern matches a name
abbrev pub is_selected : List (List PatternPart) → List ℕ → Bool
is_selected patterns name = list_any (λ pattern. is_match pattern name) patterns

-- a bench with other cases
abbrev pub with_cases : Bench → List TestCase → Bench
with_cases bench cases = record { library = bench.library; name = bench.name; architecture = bench.architecture; file = bench.file; cases = cases; whole = bench.whole; same_sim = bench.same_sim }

-- the cases of a bench whose full name some pattern matches, in order
abbrev pub selected_cases : List (List PatternPart) → Bench → List TestCase
selected_cases patterns bench = filter (λ test_case. is_selected patterns (full_name bench test_case)) bench.cases

-- the bench with only the cases whose full name some pattern matches
abbrev pub selected_bench : List (List PatternPart) → Bench → Bench
selected_bench patterns bench = with_cases bench (selected_cases patterns bench)

-- a bench with at least one case
abbrev pub has_cases : Bench → Bool
has_cases bench = not (length bench.cases == 0)

-- the benches with only their selected cases, in order; a bench without a selected case is left out
abbrev pub selection : List (List PatternPart) → List Bench → List Bench
selection patterns benches = filter has_cases (map (selected_bench patterns) benches)
