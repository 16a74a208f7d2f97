-- What the loop of `are_fresh` keeps: those so far are fresh.
use Rattle.std.proofs.Common.{◌≡◌, true, take}
use Rattle.std.specs.List.{list_all}
use Rattle.run_scheduler.specs.Plans.{is_fresh, need_at}
use Rattle.run_scheduler.proofs.plans.are_fresh.Given as goal

abbrev pub invariant-loop-dep : goal.invariant-loop-dep
invariant-loop-dep l = list_all (λ dep. is_fresh (need_at l.needs dep)) (take l.dep-index l.deps) ≡ true
