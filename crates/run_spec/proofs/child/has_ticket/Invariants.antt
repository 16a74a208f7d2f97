-- What the loop of `has_ticket` keeps: the children so far have other tickets.
use Rattle.std.proofs.Common.{◌≢◌, ℕ, ◌<◌, get_or}
use Rattle.run_spec.specs.declared.child.Child.{Child}
use Rattle.run_spec.proofs.child.has_ticket.Given as goal

abbrev pub invariant-loop-at : goal.invariant-loop-at
invariant-loop-at l = (k : ℕ) (other : Child) → k < l.at → (get_or l.children k other).ticket ≢ l.ticket
