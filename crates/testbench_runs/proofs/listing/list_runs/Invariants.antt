-- So far the runs of the benches up to the index.
use Rattle.std.proofs.Common.{◌≡◌, take}
use Rattle.testbench_runs.specs.Runs.{test_runs}
use Rattle.testbench_runs.proofs.listing.list_runs.Given as goal

abbrev pub invariant-loop-bench : goal.invariant-loop-bench
invariant-loop-bench l = l.runs ≡ test_runs l.project.files (take l.bench-index l.tests)
