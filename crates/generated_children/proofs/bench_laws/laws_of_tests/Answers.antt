-- Which tests the generated project has.
use Rattle.generated_children.proofs.BenchCases.{bench_is, cases_are, no_bench, runs_are}
use Rattle.generated_children.proofs.BenchFound.{all_are_both, tests_are}
use Rattle.generated_children.proofs.bench_laws.laws_of_tests.Goals as goal

pub returns-clause-bench : goal.returns-clause-bench
returns-clause-bench c = bench_is

pub returns-clause-package : goal.returns-clause-package
returns-clause-package c = no_bench

pub returns-clause-cases : goal.returns-clause-cases
returns-clause-cases c = cases_are

pub returns-clause-found : goal.returns-clause-found
returns-clause-found c = tests_are

pub returns-clause-runs : goal.returns-clause-runs
returns-clause-runs c = runs_are

pub returns-clause-all : goal.returns-clause-all
returns-clause-all c = all_are_both
