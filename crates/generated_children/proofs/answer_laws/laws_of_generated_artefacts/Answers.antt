-- Artefacts.
use Rattle.generated_children.proofs.BenchAnswers.{artefact_small as bench_small}
use Rattle.generated_children.proofs.Sizes.{artefact_small, artefacts_differ, package_file_fits}
use Rattle.generated_children.proofs.answer_laws.laws_of_generated_artefacts.Goals as goal

pub returns-clause-differ : goal.returns-clause-differ
returns-clause-differ c = artefacts_differ

pub returns-clause-small : goal.returns-clause-small
returns-clause-small c = artefact_small

pub returns-clause-bench_small : goal.returns-clause-bench_small
returns-clause-bench_small c = bench_small

pub returns-clause-built : goal.returns-clause-built
returns-clause-built c = package_file_fits
