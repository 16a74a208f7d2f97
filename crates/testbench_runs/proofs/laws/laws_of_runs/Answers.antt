use Rattle.std.proofs.Common.{◌≡◌, true}
use Rattle.base_outcomes.specs.declared.bench.Bench.{Bench}
use Rattle.testbench_select.specs.Selection.{has_cases}
use Rattle.testbench_runs.specs.Runs.{HasWholeCase}
use Rattle.testbench_runs.proofs.BenchRuns.{by_recursion, names_of_all, few_runs, runs_fit}
use Rattle.testbench_runs.proofs.laws.laws_of_runs.Goals as goal

pub returns-clause-names : goal.returns-clause-names
returns-clause-names c = λ files benches whole. names_of_all files benches (by_recursion HasWholeCase benches whole)

pub returns-clause-count : goal.returns-clause-count
returns-clause-count c = λ files benches some. few_runs files benches (by_recursion (λ (bench : Bench). has_cases bench ≡ true) benches some)

pub returns-clause-sizes : goal.returns-clause-sizes
returns-clause-sizes c = runs_fit
