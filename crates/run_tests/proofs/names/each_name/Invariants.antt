-- So far the names of the cases up to the index.
use Rattle.std.proofs.Common.{◌≡◌, map, take}
use Rattle.testbench_runs.specs.Runs.{name_of_case}
use Rattle.run_tests.proofs.names.each_name.Given as goal

abbrev pub invariant-loop-case : goal.invariant-loop-case
invariant-loop-case l = l.names ≡ map (name_of_case l.run) (take l.case-index l.run.cases)
