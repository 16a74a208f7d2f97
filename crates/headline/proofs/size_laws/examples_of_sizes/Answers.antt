-- Some sizes, worked out by hand.
use Rattle.headline.proofs.Examples.{size_examples}
use Rattle.headline.proofs.size_laws.examples_of_sizes.Goals as goal

pub returns : goal.returns
returns c = size_examples
