-- What the loops of `listed_graph` keep, and why they end.
use Rattle.std.proofs.Common.{◌≡◌, ◌++◌}
use Rattle.std.specs.Vec.Iter.{into_iter_items}
use Rattle.base.specs.PresentGraph.{listed}
use Rattle.project_views.proofs.listed.listed_graph.Given as goal

abbrev pub invariant-loop-text : goal.invariant-loop-text
invariant-loop-text l = record {
  rest : l.yielded ++ into_iter_items l.text-iterator ≡ l.fn.texts;
  graph : l.graph ≡ listed l.files l.yielded;
}
