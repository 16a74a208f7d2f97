-- The indices so far, and how far clauses were followed.
use Rattle.std.proofs.Common.{◌≡◌, ◌++◌, ◌-◌, ◌≤◌}
use Rattle.vhdl_outline.specs.Clauses.{HasReached}
use Rattle.vhdl_outline.specs.Indices.{AreRefIndices, refs_between}
use Rattle.vhdl_outline.proofs.named.push_indices.Given as goal

abbrev pub invariant-loop-at : goal.invariant-loop-at
invariant-loop-at l = record {
  after : l.fn.clause.start ≤ l.at;
  within : l.at ≤ l.end;
  reached : HasReached l.roles l.at l.reached;
  indices : AreRefIndices l.roles l.found.items;
  found : l.found.items ≡ l.initial.found.items ++ refs_between l.roles l.fn.clause.start l.at;
}

abbrev pub decreases-loop-at : goal.decreases-loop-at
decreases-loop-at l = l.end - l.at
