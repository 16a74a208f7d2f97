-- What the loop of `due_files` keeps: those so far are counted.
use Rattle.std.proofs.Common.{◌≡◌, ◌≤◌, not, count_by, take}
use Rattle.run_scheduler.specs.Plans.{is_fresh}
use Rattle.run_build.proofs.statuses.due_files.Given as goal

abbrev pub invariant-loop-need : goal.invariant-loop-need
invariant-loop-need l = record {
  few : l.due ≤ l.need-index;
  counted : l.due ≡ count_by (λ need. not (is_fresh need)) (take l.need-index l.needs);
}
