-- What the loop of `add_files` keeps: what the files so far depend on is noted.
use Rattle.order.specs.Untakens.{IsUntakenTo}
use Rattle.order.proofs.untaken.add_files.Given as goal

abbrev pub invariant-loop-file : goal.invariant-loop-file
invariant-loop-file l = IsUntakenTo l.left l.edges l.file
