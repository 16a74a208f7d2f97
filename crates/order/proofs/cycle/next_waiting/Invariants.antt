-- What the loop of `next_waiting` keeps: none of the dependencies before waits.
use Rattle.std.proofs.Common.{◌≡◌, ℕ, ◌<◌, false, get_or}
use Rattle.order.proofs.cycle.next_waiting.Given as goal

abbrev pub invariant-loop-dep : goal.invariant-loop-dep
invariant-loop-dep l = (k : ℕ) → k < l.dep-index → get_or l.waiting (get_or l.deps k 0) false ≡ false
