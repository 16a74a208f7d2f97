-- What the loop of `ranks_of` keeps: the files so far have their ranks.
use Rattle.std.proofs.Common.{◌≡◌, ℕ, ◌<◌, length, get_or}
use Rattle.project_graph.proofs.closures.ranks_of.Given as goal

abbrev pub invariant-loop-rank : goal.invariant-loop-rank
invariant-loop-rank l = record {
  as_many : length l.ranks.items ≡ length l.edges;
  each : (k : ℕ) → k < l.rank → get_or l.ranks.items (get_or l.order k 0) 0 ≡ k;
}
