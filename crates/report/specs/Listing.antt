-- The list of the tests of a project. Each line ends with a line feed.
use Rattle.std.specs.Prelude.{ℕ, List, [], ◌∷◌, ◌++◌, codes}
use Rattle.std.specs.Fmt.{decimal}
use Rattle.std.specs.List.{flat_map}
use Rattle.base_outcomes.specs.declared.bench.Bench.{Bench}
use Rattle.base_outcomes.specs.declared.bench.TestCase.{TestCase}
use Rattle.testbench_select.specs.Selection.{count_of_tests, full_name}

-- a case, on a line of its own
abbrev pub test_line : Bench → TestCase → List ℕ
test_line bench test_case = full_name bench test_case ++ 10 ∷ []

-- the cases of a bench, in order
abbrev pub bench_lines : Bench → List ℕ
bench_lines bench = flat_map (test_line bench) bench.cases

-- how many tests are listed
unfoldable pub tests_count : ℕ → List ℕ
tests_count count = codes "Listed " ++ (decimal count ++ (codes " tests" ++ 10 ∷ []))

-- what is put of the tests: a line for each case, and how many there are
abbrev pub tests_list : List Bench → List ℕ
tests_list tests = flat_map bench_lines tests ++ tests_count (count_of_tests tests)
