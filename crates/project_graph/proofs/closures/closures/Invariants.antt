-- What the loop of `closures` keeps: the files so far have their rows.
use Rattle.std.proofs.Common.{◌≡◌, ℕ, ◌<◌, length, get_or}
use Rattle.order.specs.LinkedGraph.{reaches}
use Rattle.project_graph.specs.Rows.{row_has}
use Rattle.project_graph.proofs.closures.closures.Given as goal

abbrev pub invariant-loop-rank : goal.invariant-loop-rank
invariant-loop-rank l = record {
  count : length l.rows.items ≡ l.rank;
  each : (rank at : ℕ) → rank < l.rank → at < length l.order → row_has l.rows.items rank at ≡ reaches l.edges (get_or l.order rank 0) (get_or l.order at 0);
}
