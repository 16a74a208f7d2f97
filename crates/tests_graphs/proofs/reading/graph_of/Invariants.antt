use Rattle.std.proofs.Common.{◌≡◌, ◌++◌}
use Rattle.std.specs.Vec.Iter.{into_iter_items}
use Rattle.tests_graphs.proofs.reading.graph_of.Given as goal

abbrev pub invariant-loop-entry : goal.invariant-loop-entry
invariant-loop-entry l = record {
  rest : l.yielded ++ into_iter_items l.entry-iterator ≡ l.fn.entries;
  graph : l.graph ≡ l.yielded;
}
