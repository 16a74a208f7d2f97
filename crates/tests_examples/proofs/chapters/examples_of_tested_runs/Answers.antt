-- Answers to the goals of `examples_of_tested_runs`.
use Rattle.tests_examples.proofs.TestedRuns.{tests_said, moves_of_tests, ends_of_tests, runs_said}
use Rattle.tests_examples.proofs.chapters.examples_of_tested_runs.Goals as goal

pub returns-clause-tests_said : goal.returns-clause-tests_said
returns-clause-tests_said c = tests_said

pub returns-clause-moves_of_tests : goal.returns-clause-moves_of_tests
returns-clause-moves_of_tests c = moves_of_tests

pub returns-clause-ends_of_tests : goal.returns-clause-ends_of_tests
returns-clause-ends_of_tests c = ends_of_tests

pub returns-clause-runs_said : goal.returns-clause-runs_said
returns-clause-runs_said c = runs_said
