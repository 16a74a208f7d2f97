-- What the loop of `no_users` keeps: the lists so far are empty.
use Rattle.std.proofs.Common.{◌≡◌, ℕ, [], length, get_or}
use Rattle.order.specs.Counts.{times}
use Rattle.order.proofs.lists.no_users.Given as goal

abbrev pub invariant-loop-file : goal.invariant-loop-file
invariant-loop-file l = record {
  count : length l.users.items ≡ l._file;
  none : (dep at : ℕ) → times at (get_or l.users.items dep []) ≡ 0;
}
