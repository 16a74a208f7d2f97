-- Answers to the goals of `examples_of_said_texts`.
use Rattle.tests_examples.proofs.SaidTexts.{file_statuses, halted_builds}
use Rattle.tests_examples.proofs.chapters.examples_of_said_texts.Goals as goal

pub returns-clause-file_statuses : goal.returns-clause-file_statuses
returns-clause-file_statuses c = file_statuses

pub returns-clause-halted_builds : goal.returns-clause-halted_builds
returns-clause-halted_builds c = halted_builds
