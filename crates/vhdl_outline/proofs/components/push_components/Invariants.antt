-- The indices so far.
use Rattle.std.proofs.Common.{◌≡◌, ◌++◌, ◌-◌, ◌<◌, ◌≤◌, length}
use Rattle.std.specs.List.{All}
use Rattle.vhdl_outline.specs.Components.{components_between}
use Rattle.vhdl_outline.proofs.components.push_components.Given as goal

abbrev pub invariant-loop-at : goal.invariant-loop-at
invariant-loop-at l = record {
  after : l.start ≤ l.at;
  within : l.at ≤ l.end;
  inside : All (λ at. at < length l.roles) l.found.items;
  found : l.found.items ≡ l.initial.found.items ++ components_between l.roles l.start l.at;
}

abbrev pub decreases-loop-at : goal.decreases-loop-at
decreases-loop-at l = l.end - l.at
