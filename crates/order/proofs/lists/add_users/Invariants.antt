-- What the loop of `add_users` keeps: the dependencies so far are noted.
use Rattle.std.proofs.Common.{◌≡◌, ℕ, ◌+◌, ◌==◌, cond, [], length, get_or, take}
use Rattle.order.specs.Counts.{times}
use Rattle.order.proofs.lists.add_users.Given as goal

abbrev pub invariant-loop-dep : goal.invariant-loop-dep
invariant-loop-dep l = record {
  count : length l.users.items ≡ length l.fn.users.items;
  added : (other k : ℕ) → times k (get_or l.users.items other []) ≡ times k (get_or l.fn.users.items other []) + cond (l.file == k) (times other (take l.dep-index l.deps)) 0;
}
