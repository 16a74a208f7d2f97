-- A simulator with which all cases of a plan pass, and how many cases there are.
use Rattle.std.specs.Prelude.{◌≡◌, ℕ, true, List, All, length}
use Rattle.std.specs.List.{flat_map}
use Rattle.base.specs.declared.graph.BuiltFile.{BuiltFile}
use Rattle.base.specs.declared.child.Request.{Request}
use Rattle.base.specs.declared.child.Exit.{Exit}
use Rattle.testbench_runs.specs.declared.runs.TestRun.{TestRun}
use Rattle.testbench_runs.specs.BenchJobs.{bench_request}
use Rattle.testbench_runs.specs.Runs.{case_names}
use Rattle.testbench_runs.specs.Verdicts.{is_passed}
use Rattle.run_spec.specs.TestJournal.{TestPlan}

-- The simulator answers what it is asked for each run of a plan over these libraries so that all cases of the run pass.
abbrev pub PassesAll : (Request → Exit) → TestPlan → List BuiltFile → Type 0
PassesAll answer plan built = All (λ run. is_passed run (answer (bench_request run plan.simulator built)) ≡ true) plan.runs

-- how many cases runs have
abbrev pub case_count : List TestRun → ℕ
case_count runs = length (flat_map case_names runs)
