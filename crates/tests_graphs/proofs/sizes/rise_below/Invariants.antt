use Rattle.std.proofs.Common.{ℕ, ◌<◌, ◌+◌, get_or}
use Rattle.tests_graphs.proofs.sizes.rise_below.Given as goal

abbrev pub invariant-loop-i : goal.invariant-loop-i
invariant-loop-i l = record { rising : (k : ℕ) → k + 1 < l.i → get_or l.positions k 0 < get_or l.positions (k + 1) 0; below : (k : ℕ) → k < l.i → get_or l.positions k 0 < l.rank }
