-- What the loop of `count_files` keeps: what the files so far depend on is noted.
use Rattle.run_scheduler.specs.Counts.{AreCountedTo}
use Rattle.run_scheduler.proofs.lists.count_files.Given as goal

abbrev pub invariant-loop-at : goal.invariant-loop-at
invariant-loop-at l = AreCountedTo l.graph l.checked l.made l.later l.at
