-- So far the names of the cases up to the index.
use Rattle.std.proofs.Common.{◌≡◌, map, take}
use Rattle.base_outcomes.specs.declared.bench.TestCase.{TestCase}
use Rattle.testbench_runs.proofs.listing.names_of.Given as goal

abbrev pub invariant-loop-test : goal.invariant-loop-test
invariant-loop-test l = l.names ≡ map (λ (test : TestCase). test.name) (take l.test-index l.bench.cases)
