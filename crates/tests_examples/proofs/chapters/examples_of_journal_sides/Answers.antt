-- Answers to the goals of `examples_of_journal_sides`.
use Rattle.tests_examples.proofs.JournalSides.{spelled_sides, image_payloads}
use Rattle.tests_examples.proofs.chapters.examples_of_journal_sides.Goals as goal

pub returns-clause-spelled_sides : goal.returns-clause-spelled_sides
returns-clause-spelled_sides c = spelled_sides

pub returns-clause-image_payloads : goal.returns-clause-image_payloads
returns-clause-image_payloads c = image_payloads
