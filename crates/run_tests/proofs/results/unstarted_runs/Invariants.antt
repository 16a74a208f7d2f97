-- The runs up to the index are listed as unstarted.
use Rattle.std.proofs.Common.{◌≡◌, map, take}
use Rattle.testbench_runs.specs.Verdicts.{unstarted_run}
use Rattle.run_tests.proofs.results.unstarted_runs.Given as goal

abbrev pub invariant-loop-run : goal.invariant-loop-run
invariant-loop-run l = l.found.items ≡ map unstarted_run (take l.run-index l.runs)
