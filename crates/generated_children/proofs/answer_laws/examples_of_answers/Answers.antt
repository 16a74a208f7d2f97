-- Artefacts and answers of three files.
use Rattle.generated_children.proofs.AnswerExamples.{answer_examples}
use Rattle.generated_children.proofs.ArtefactExamples.{compiled_examples}
use Rattle.generated_children.proofs.answer_laws.examples_of_answers.Goals as goal

pub returns-clause-artefacts : goal.returns-clause-artefacts
returns-clause-artefacts c = compiled_examples

pub returns-clause-answers : goal.returns-clause-answers
returns-clause-answers c = answer_examples
