-- So far the indices below the number.
use Rattle.std.proofs.Common.{◌≡◌, ℕ, ◌<◌, get_or, length}
use Rattle.vhdl_scope.proofs.spread.all_indices.Given as goal

abbrev pub invariant-loop-at : goal.invariant-loop-at
invariant-loop-at l = record {
  each : length l.work.items ≡ l.at;
  is : (k : ℕ) → k < l.at → get_or l.work.items k 0 ≡ k;
}
