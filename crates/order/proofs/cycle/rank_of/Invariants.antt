-- What the loop of `rank_of` keeps: the file doesn't come before.
use Rattle.std.proofs.Common.{◌≢◌, ℕ, ◌<◌, get_or}
use Rattle.order.proofs.cycle.rank_of.Given as goal

abbrev pub invariant-loop-rank : goal.invariant-loop-rank
invariant-loop-rank l = (k : ℕ) → k < l.rank → get_or l.passed k 0 ≢ l.file
