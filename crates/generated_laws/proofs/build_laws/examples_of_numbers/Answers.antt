-- The examples, by computation.
use Rattle.std.proofs.Common.{refl}
use Rattle.base.specs.PresentGraph.{below}
use Rattle.order.specs.BuildOrder.{file_order, first_free, taken_after}
use Rattle.order.specs.LinkedGraph.{linked, reaches_within}
use Rattle.generated_laws.specs.TouchedNumbers.{comes_to}
use Rattle.generated_laws.proofs.build_laws.examples_of_numbers.Goals as goal

pub returns : goal.returns
unfolding below comes_to file_order first_free linked reaches_within taken_after
returns c = record {
  three_edges = refl;
  three_order = refl;
  three_deps = refl;
  two_order = refl;
  two_deps = refl;
  one_touched = refl;
  three_touched = refl;
  ten_touched = refl;
}
