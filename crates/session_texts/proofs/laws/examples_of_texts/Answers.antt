-- The examples.
use Rattle.session_texts.proofs.TextExamples.{overlay_examples, path_examples, size_examples}
use Rattle.session_texts.proofs.laws.examples_of_texts.Goals as goal

pub returns-clause-overlays : goal.returns-clause-overlays
returns-clause-overlays c = overlay_examples

pub returns-clause-paths : goal.returns-clause-paths
returns-clause-paths c = path_examples

pub returns-clause-sizes : goal.returns-clause-sizes
returns-clause-sizes c = size_examples
