-- Answers to the goals of `planned_runs`.
use Rattle.std.proofs.Common.{◌≡◌, ◌≤◌, ◌∙◌, List, map, length, ap, sym, subst, arith}
use Rattle.std.specs.Prelude.{All}
use Rattle.base_outcomes.specs.declared.bench.Bench.{Bench}
use Rattle.base.specs.declared.project.ProjectFile.{ProjectFile}
use Rattle.testbench_select.specs.Patterns.{pattern_parts_of}
use Rattle.testbench_select.specs.Selection.{count_of_tests, selection}
use Rattle.testbench_runs.specs.declared.runs.TestRun.{TestRun}
use Rattle.testbench_runs.specs.Runs.{FitsBench, FitsRun, test_runs}
use Rattle.project_reading.proofs.Fitting.{all_fit}
use Rattle.project_reading.proofs.planning.planned_runs.Goals as goal

pub returns-clause-fits : goal.returns-clause-fits
returns-clause-fits c =
    let files : List ProjectFile = c.args.read.now.project.files in
    let benches : All (FitsBench files) c.in_ok-tests.tests =
    subst (λ (l : List Bench). All (FitsBench files) l) (sym c.in_ok-tests.ensures) (c.laws_of_bench_sizes.ensures.selected files (map pattern_parts_of c.args.query.now.patterns) c.args.read.now.tests (c.laws_of_bench_sizes.ensures.read c.args.query.now c.args.read.now c.requires.read)) in
    subst (λ (l : List TestRun). All FitsRun l) (sym c.in_ok-runs.ensures) (all_fit files (c.laws_of_runs.ensures.sizes files) c.in_ok-tests.tests benches)

pub returns-clause-few : goal.returns-clause-few
returns-clause-few c =
    let files : List ProjectFile = c.args.read.now.project.files in
    let some : List Bench = selection (map pattern_parts_of c.args.query.now.patterns) c.args.read.now.tests in
    let runs : length c.in_ok-runs.runs ≡ length (test_runs files some) = ap (λ (l : List TestRun). length l) (c.in_ok-runs.ensures ∙ ap (test_runs files) c.in_ok-tests.ensures) in
    let most : length (test_runs files some) ≤ count_of_tests some = c.laws_of_runs.ensures.count files some (c.laws_of_bench_sizes.ensures.some (map pattern_parts_of c.args.query.now.patterns) c.args.read.now.tests) in
    let fewer : count_of_tests some ≤ count_of_tests c.args.read.now.tests = c.laws_of_bench_sizes.ensures.fewer (map pattern_parts_of c.args.query.now.patterns) c.args.read.now.tests in
    omega (arith, runs, most, fewer, c.laws_of_bench_sizes.ensures.few c.args.query.now c.args.read.now c.requires.read)
