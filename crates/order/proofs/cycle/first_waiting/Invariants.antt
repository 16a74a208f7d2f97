-- What the loop of `first_waiting` keeps: no file before waits.
use Rattle.std.proofs.Common.{◌≡◌, ℕ, ◌<◌, false, get_or}
use Rattle.order.proofs.cycle.first_waiting.Given as goal

abbrev pub invariant-loop-file : goal.invariant-loop-file
invariant-loop-file l = (k : ℕ) → k < l.file → get_or l.waiting k false ≡ false
