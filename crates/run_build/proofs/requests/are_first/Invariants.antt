-- What holds at each turn of the loop of `are_first`: those so far are the first ones.
use Rattle.std.proofs.Common.{◌≡◌, take}
use Rattle.base.specs.PresentGraph.{below}
use Rattle.run_build.proofs.requests.are_first.Given as goal

abbrev pub invariant-loop-at : goal.invariant-loop-at
invariant-loop-at l = take l.at l.deps ≡ below l.at
