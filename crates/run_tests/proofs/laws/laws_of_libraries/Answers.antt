-- Answers to the goals of `laws_of_libraries`.
use Rattle.run_tests.proofs.CleanLibraries.{built_clean, tests_clean}
use Rattle.run_tests.proofs.laws.laws_of_libraries.Goals as goal

pub returns-clause-built : goal.returns-clause-built
returns-clause-built c = built_clean

pub returns-clause-tests : goal.returns-clause-tests
returns-clause-tests c = tests_clean
