use Rattle.std.proofs.Common.{◌≡◌, ◌+◌, length, take}
use Rattle.std.specs.Prelude.{sum_by}
use Rattle.tests_graphs.proofs.views.are_small.Given as goal
use Rattle.base.specs.declared.limits.TheConstants.{GRAPH_TEXT_LIMIT}

abbrev pub invariant-loop-entry : goal.invariant-loop-entry
invariant-loop-entry l = sum_by (λ entry. length entry.text) (take l.entry-index l.entries) + l.left ≡ GRAPH_TEXT_LIMIT
