-- What holds at each turn of the loop of `first_statuses`: the files so far have their statuses.
use Rattle.std.proofs.Common.{◌≡◌, map, take}
use Rattle.run_build.specs.Statuses.{first_status}
use Rattle.run_build.proofs.statuses.first_statuses.Given as goal

abbrev pub invariant-loop-need : goal.invariant-loop-need
invariant-loop-need l = l.statuses.items ≡ map (first_status l.keep_going) (take l.need-index l.needs)
