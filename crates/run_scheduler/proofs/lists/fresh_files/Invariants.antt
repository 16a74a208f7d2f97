-- What the loop of `fresh_files` keeps: the files so far are told.
use Rattle.std.proofs.Common.{◌≡◌, ℕ, ◌<◌, false, length, get_or}
use Rattle.run_scheduler.specs.Plans.{is_fresh, need_at}
use Rattle.run_scheduler.proofs.lists.fresh_files.Given as goal

abbrev pub invariant-loop-need : goal.invariant-loop-need
invariant-loop-need l = record {
  count : length l.fresh.items ≡ l.need-index;
  each : (k : ℕ) → k < l.need-index → get_or l.fresh.items k false ≡ is_fresh (need_at l.needs k);
}
