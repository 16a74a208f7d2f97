-- What the loop of `count_unmade` keeps: those so far are counted.
use Rattle.std.proofs.Common.{◌≡◌, ◌≤◌, false, get_or, take}
use Rattle.order.specs.Counts.{undone}
use Rattle.run_scheduler.proofs.lists.count_unmade.Given as goal

abbrev pub invariant-loop-dep : goal.invariant-loop-dep
invariant-loop-dep l = record {
  few : l.count ≤ l.dep-index;
  counted : l.count ≡ undone (λ dep. get_or l.made dep false) (take l.dep-index l.deps);
}
