-- Examples worked out by hand.
use Rattle.generated_children.proofs.BenchExamples.{test_examples}
use Rattle.generated_children.proofs.bench_laws.examples_of_tests.Goals as goal

pub returns : goal.returns
returns c = test_examples
