-- What the loop of `are_small` keeps: the texts so far are small.
use Rattle.std.proofs.Common.{◌≡◌, ℕ, ◌<◌, ◌≤◌, [], List, length, get_or, take}
use Rattle.std.specs.Prelude.{sum_by}
use Rattle.base.specs.declared.limits.TheConstants.{TEXT_LIMIT, GRAPH_TEXT_LIMIT}
use Rattle.project_graph.proofs.fitting.are_small.Given as goal

abbrev pub invariant-loop-i : goal.invariant-loop-i
invariant-loop-i l = record {
  short : (k : ℕ) → k < l.i → length (get_or l.texts k []) ≤ TEXT_LIMIT;
  total : l.total ≡ sum_by (λ (text : List ℕ). length text) (take l.i l.texts);
  within : l.total ≤ GRAPH_TEXT_LIMIT;
}
