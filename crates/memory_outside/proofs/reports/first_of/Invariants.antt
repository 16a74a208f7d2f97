-- What the loop of `first_of` keeps: no report so far is of the path.
use Rattle.std.proofs.Common.{◌≡◌, drop}
use Rattle.memory_outside.specs.Trees.{file_at}
use Rattle.memory_outside.proofs.reports.first_of.Given as goal

abbrev pub invariant-loop-report : goal.invariant-loop-report
invariant-loop-report l = file_at l.written l.path ≡ file_at (drop l.report-index l.written) l.path
