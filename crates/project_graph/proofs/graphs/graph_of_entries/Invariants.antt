-- The graph has the files that were moved, and the others are left.
use Rattle.std.proofs.Common.{◌≡◌, ◌++◌}
use Rattle.std.specs.Vec.Iter.{into_iter_items}
use Rattle.project_graph.proofs.graphs.graph_of_entries.Given as goal

abbrev pub invariant-loop-entry : goal.invariant-loop-entry
invariant-loop-entry l = record {
  graph : l.graph ≡ l.yielded;
  rest : l.yielded ++ into_iter_items l.entry-iterator ≡ l.fn.entries.items;
}
