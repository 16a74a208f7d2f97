-- Answers to the goals of `examples_of_build_histories`.
use Rattle.tests_examples.proofs.BuildHistories.{found_records}
use Rattle.tests_examples.proofs.chapters.examples_of_build_histories.Goals as goal

pub returns : goal.returns
returns c = record { found_records = found_records }
