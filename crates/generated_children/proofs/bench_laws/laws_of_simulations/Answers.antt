-- What simulators answer.
use Rattle.generated_children.proofs.Artefacts.{bench_lets_pass, package_lets_pass, testable}
use Rattle.generated_children.proofs.PassedExits.{first_is_passed, second_is_passed}
use Rattle.generated_children.proofs.Simulations.{first_passes, second_passes}
use Rattle.generated_children.proofs.bench_laws.laws_of_simulations.Goals as goal

pub returns-clause-first : goal.returns-clause-first
returns-clause-first c = first_passes

pub returns-clause-second : goal.returns-clause-second
returns-clause-second c = second_passes

pub returns-clause-first_passes : goal.returns-clause-first_passes
returns-clause-first_passes c = first_is_passed

pub returns-clause-second_passes : goal.returns-clause-second_passes
returns-clause-second_passes c = second_is_passed

pub returns-clause-bench : goal.returns-clause-bench
returns-clause-bench c = bench_lets_pass

pub returns-clause-package : goal.returns-clause-package
returns-clause-package c = package_lets_pass

pub returns-clause-testable : goal.returns-clause-testable
returns-clause-testable c = testable
