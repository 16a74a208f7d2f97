-- So far the runs of the cases up to the index.
use Rattle.std.proofs.Common.{◌≡◌, ◌++◌, [], ◌∷◌, map, take}
use Rattle.base_outcomes.specs.declared.bench.TestCase.{TestCase}
use Rattle.testbench_runs.specs.Runs.{run_with}
use Rattle.testbench_runs.proofs.listing.push_cases.Given as goal

abbrev pub invariant-loop-test : goal.invariant-loop-test
invariant-loop-test l = l.runs ≡ l.fn.runs ++ map (λ (test : TestCase). run_with l.project.files l.bench (test.name ∷ [])) (take l.test-index l.bench.cases)
