-- So far each fits.
use Rattle.std.proofs.Common.{All, take}
use Rattle.testbench_runs.specs.Runs.{FitsRun}
use Rattle.tests_verdicts.proofs.asked.each_fits.Given as goal

abbrev pub invariant-loop-run : goal.invariant-loop-run
invariant-loop-run l = All FitsRun (take l.run-index l.runs)
