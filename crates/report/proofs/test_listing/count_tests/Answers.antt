-- The count fits, since each test has a line.
use Rattle.std.proofs.Common.{◌≡◌, ◌+◌, ◌≤◌, length, take, get_or, ap, arith}
use Rattle.std.specs.List.{flat_map}
use Rattle.std.proofs.lemmas.List.Sums.{sum_by_more_le}
use Rattle.base_outcomes.specs.declared.bench.Bench.{Bench}
use Rattle.testbench_select.specs.Selection.{count_of_tests}
use Rattle.report.specs.Listing.{bench_lines}
use Rattle.report.proofs.Counts.{tests_fit}
use Rattle.report.proofs.test_listing.count_tests.Goals as goal

pub overflow_add-count : goal.overflow_add-count
overflow_add-count c =
    let lines : length c.args.lines.now ≡ length (flat_map bench_lines c.args.tests.now) = ap length c.requires in
    let fit : count_of_tests c.args.tests.now ≤ length (flat_map bench_lines c.args.tests.now) = tests_fit c.args.tests.now in
    let within : count_of_tests (take c.loop-i.i c.args.tests.now) + length (get_or c.args.tests.now c.loop-i.i c.index-tests-i.result).cases ≤ count_of_tests c.args.tests.now =
    sum_by_more_le (λ (b : Bench). length b.cases) c.args.tests.now c.loop-i.i c.index-tests-i.result c.loop-i-test.true in
    omega arith
