use Rattle.std.proofs.Common.{◌≡◌}
use Rattle.system_children.proofs.procs.ChildProcs.hear_last.Given as goal

-- the tickets and the counts stay
abbrev pub invariant-loop : goal.invariant-loop
invariant-loop g l = record {
  tickets : l.self.tickets.items ≡ l.initial.self.tickets.items;
  starts : l.self.failed_starts ≡ l.initial.self.failed_starts;
  children : l.self.lost_children ≡ l.initial.self.lost_children;
}
