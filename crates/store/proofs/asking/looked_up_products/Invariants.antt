use Rattle.std.proofs.Common.{◌≡◌, ℕ, ◌<◌, ◌≤◌, Some, get_or, length}
use Rattle.store.specs.LookedUp.{looked_up_product}
use Rattle.store.proofs.asking.looked_up_products.Given as goal

abbrev pub invariant-loop-k : goal.invariant-loop-k
invariant-loop-k l = record {
  size : length l.numbers ≡ l.k;
  within : l.k ≤ length l.positions;
  is : (j : ℕ) → j < l.k → Some (get_or l.numbers j 0) ≡ looked_up_product l.handles (get_or l.positions j 0);
}
