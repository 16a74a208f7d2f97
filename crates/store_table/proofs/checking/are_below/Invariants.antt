use Rattle.std.proofs.Common.{ℕ, ◌<◌, slice_index_or}
use Rattle.store_table.proofs.checking.are_below.Given as goal

abbrev pub invariant-loop-k : goal.invariant-loop-k
invariant-loop-k l = (j : ℕ) (d : ℕ) → j < l.k → slice_index_or l.numbers j d < l.bound
