-- What the loop of `stale_files` keeps: of the positions so far the stale ones are in the set, and no others.
use Rattle.std.proofs.Common.{◌≡◌, ℕ, ◌<◌, ◌≤◌, false}
use Rattle.base_collections.specs.Positions.{has}
use Rattle.run_scheduler.specs.Plans.{is_stale, need_at}
use Rattle.run_scheduler.proofs.lists.stale_files.Given as goal

abbrev pub invariant-loop-at : goal.invariant-loop-at
invariant-loop-at l = record {
  below : (k : ℕ) → k < l.at → has l.stale k ≡ is_stale (need_at l.needs k);
  above : (k : ℕ) → l.at ≤ k → has l.stale k ≡ false;
}
