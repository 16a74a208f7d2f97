-- The indices so far, and how far clauses were followed.
use Rattle.std.proofs.Common.{◌≡◌, ◌++◌, ◌-◌, ◌<◌, ◌≤◌, length}
use Rattle.std.specs.List.{All}
use Rattle.vhdl_spec.specs.References.{is_use_of_all, indices}
use Rattle.vhdl_outline.specs.Clauses.{HasReached}
use Rattle.vhdl_outline.proofs.uses.push_uses.Given as goal

abbrev pub invariant-loop-at : goal.invariant-loop-at
invariant-loop-at l = record {
  after : l.fn.clause.start ≤ l.at;
  within : l.at ≤ l.end;
  reached : HasReached l.roles l.at l.reached;
  inside : All (λ at. at < length l.roles) l.uses.items;
  found : l.uses.items ≡ l.initial.uses.items ++ indices (is_use_of_all l.roles) l.fn.clause.start l.at;
}

abbrev pub decreases-loop-at : goal.decreases-loop-at
decreases-loop-at l = l.end - l.at
