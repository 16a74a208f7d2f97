-- What the loop of `later_files` keeps: the files so far are told.
use Rattle.std.proofs.Common.{◌≡◌, ℕ, ◌<◌, false, length, get_or}
use Rattle.run_scheduler.specs.Plans.{is_later, need_at}
use Rattle.run_scheduler.proofs.lists.later_files.Given as goal

abbrev pub invariant-loop-need : goal.invariant-loop-need
invariant-loop-need l = record {
  count : length l.later.items ≡ l.need-index;
  each : (k : ℕ) → k < l.need-index → get_or l.later.items k false ≡ is_later (need_at l.needs k);
}
