-- What the loop of `order_ready` keeps: the positions so far are in the set as they should be, and no others.
use Rattle.std.proofs.Common.{◌≡◌, ℕ, ◌<◌, ◌≤◌, ◌==◌, ◌&&◌, false, get_or}
use Rattle.base_collections.specs.Positions.{has}
use Rattle.order.proofs.lists.ready_files.Given as goal

abbrev pub invariant-loop-at : goal.invariant-loop-at
invariant-loop-at l = record {
  below : (k : ℕ) → k < l.at → has l.ready k ≡ (get_or l.waiting k false && (get_or l.missing k 0 == 0));
  above : (k : ℕ) → l.at ≤ k → has l.ready k ≡ false;
}
