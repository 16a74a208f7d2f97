-- What the loop of `lower` keeps: the users so far are counted down.
use Rattle.std.proofs.Common.{◌≡◌, ℕ, ◌-◌, length, get_or, take}
use Rattle.base_collections.specs.Positions.{has}
use Rattle.order.specs.Counts.{AreReady, times}
use Rattle.order.proofs.lists.lower.Given as goal

abbrev pub invariant-loop-user : goal.invariant-loop-user
invariant-loop-user l = record {
  count : length l.missing.items ≡ length l.fn.missing.items;
  lowered : (k : ℕ) → get_or l.missing.items k 0 ≡ get_or l.fn.missing.items k 0 - times k (take l.user-index l.users);
  ready : AreReady (has l.fn.ready) l.waiting l.fn.missing.items → AreReady (has l.ready) l.waiting l.missing.items;
}
