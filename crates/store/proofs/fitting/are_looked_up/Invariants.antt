use Rattle.std.proofs.Common.{◌≡◌, ℕ, ◌<◌, Some, get_or}
use Rattle.store.specs.LookedUp.{looked_up_product}
use Rattle.store.proofs.fitting.are_looked_up.Given as goal

abbrev pub invariant-loop-k : goal.invariant-loop-k
invariant-loop-k l = (j : ℕ) → j < l.k → Some (get_or l.numbers j 0) ≡ looked_up_product l.handles (get_or l.positions j 0)
