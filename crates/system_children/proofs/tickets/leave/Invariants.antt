use Rattle.std.proofs.Common.{◌≡◌, ◌++◌, take, drop}
use Rattle.outside.specs.Children.{without}
use Rattle.system_children.proofs.tickets.leave.Given as goal

abbrev pub invariant-loop-i : goal.invariant-loop-i
invariant-loop-i l = record {
  same : l.running.items ≡ l.initial.running.items;
  passed : without l.ticket l.running.items ≡ take l.i l.running.items ++ without l.ticket (drop l.i l.running.items);
}
