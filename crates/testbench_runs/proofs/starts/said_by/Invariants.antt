-- What holds at each turn of the loop of `said_by`: if the remaining lines are added to what the earlier lines say, the
-- result is what all lines say.
use Rattle.std.proofs.Common.{length}
use Rattle.testbench_runs.specs.Verdicts.{result_lines}
use Rattle.testbench_runs.specs.Starts.{Adds, Sayings, no_sayings}
use Rattle.testbench_runs.proofs.starts.said_by.Given as goal

abbrev pub invariant-lines : goal.invariant-lines
invariant-lines l = (later : Sayings) → Adds l.cases (result_lines l.rest) l.said later → Adds l.cases (result_lines l.text) no_sayings later

abbrev pub decreases-lines : goal.decreases-lines
decreases-lines l = length l.rest
