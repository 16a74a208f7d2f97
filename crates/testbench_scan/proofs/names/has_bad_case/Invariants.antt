-- None so far.
use Rattle.std.proofs.Common.{◌≡◌, false, take}
use Rattle.std.specs.List.{list_any}
use Rattle.testbench_scan.specs.Benches.{is_bad_case}
use Rattle.testbench_scan.proofs.names.has_bad_case.Given as goal

abbrev pub invariant-loop-test_case : goal.invariant-loop-test_case
invariant-loop-test_case l = list_any (is_bad_case l.bench) (take l.test_case-index l.bench.cases) ≡ false
