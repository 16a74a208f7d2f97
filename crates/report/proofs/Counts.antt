-- There are no more cases than bytes of their lines.
use Rattle.std.proofs.Common.{◌≡◌, ◌+◌, ◌≤◌, List, [], ◌∷◌, length, arith, length-append}
use Rattle.std.specs.List.{flat_map}
use Rattle.std.proofs.lemmas.List.Sums.{sum_by-cons}
use Rattle.base_outcomes.specs.declared.bench.Bench.{Bench}
use Rattle.base_outcomes.specs.declared.bench.TestCase.{TestCase}
use Rattle.testbench_select.specs.Selection.{count_of_tests, full_name}
use Rattle.report.specs.Listing.{test_line, bench_lines}

cases_fit : (bench : Bench) (cases : List TestCase) → length cases ≤ length (flat_map (test_line bench) cases)
cases_fit bench [] = omega arith
cases_fit bench (case ∷ rest) =
    let bytes : length (flat_map (test_line bench) (case ∷ rest)) ≡ length (test_line bench case) + length (flat_map (test_line bench) rest) = length-append (test_line bench case) (flat_map (test_line bench) rest) in
    omega (arith, cases_fit bench rest, length-append (full_name bench case) (10 ∷ []))

pub tests_fit : (tests : List Bench) → count_of_tests tests ≤ length (flat_map bench_lines tests)
tests_fit [] = omega arith
tests_fit (bench ∷ rest) =
    let sum : count_of_tests (bench ∷ rest) ≡ length bench.cases + count_of_tests rest = sum_by-cons (λ (b : Bench). length b.cases) bench rest in
    let bytes : length (flat_map bench_lines (bench ∷ rest)) ≡ length (bench_lines bench) + length (flat_map bench_lines rest) = length-append (bench_lines bench) (flat_map bench_lines rest) in
    omega (arith, tests_fit rest, cases_fit bench bench.cases)
