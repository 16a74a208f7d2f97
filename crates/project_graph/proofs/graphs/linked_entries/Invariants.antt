-- What the loop of `linked_entries` keeps: the files so far are the first ones of the whole, and the texts of the others are left.
use Rattle.std.proofs.Common.{◌≡◌, ℕ, ◌<◌, ◌≤◌, [], length, get_or, take}
use Rattle.order.specs.LinkedGraph.{linked}
use Rattle.project_graph.proofs.graphs.linked_entries.Given as goal

abbrev pub invariant-loop-rank : goal.invariant-loop-rank
invariant-loop-rank l = record {
  entries : l.entries.items ≡ take l.rank (linked l.project.files l.fn.texts l.edges l.fn.order);
  count : length l.texts.items ≡ length l.fn.texts;
  left : (at : ℕ) → l.rank ≤ at → at < length l.fn.order → get_or l.texts.items (get_or l.fn.order at 0) [] ≡ get_or l.fn.texts (get_or l.fn.order at 0) [];
}
