-- What the loop of `checked_files` keeps: the files so far are told.
use Rattle.std.proofs.Common.{◌≡◌, ℕ, ◌<◌, false, not, length, get_or}
use Rattle.run_scheduler.specs.Plans.{is_later, need_at}
use Rattle.run_scheduler.proofs.lists.checked_files.Given as goal

abbrev pub invariant-loop-need : goal.invariant-loop-need
invariant-loop-need l = record {
  count : length l.checked.items ≡ l.need-index;
  each : (k : ℕ) → k < l.need-index → get_or l.checked.items k false ≡ not (is_later (need_at l.needs k));
}
