-- The runs of selected tests are few, and each has the sizes of a run.
use Rattle.std.proofs.Common.{List, [], ◌∷◌}
use Rattle.std.specs.Prelude.{All}
use Rattle.std.proofs.lemmas.List.Elements.{All-nil, All-head, All-tail, All-append}
use Rattle.base_outcomes.specs.declared.bench.Bench.{Bench}
use Rattle.base.specs.declared.project.ProjectFile.{ProjectFile}
use Rattle.testbench_runs.specs.Runs.{FitsBench, FitsRun, bench_runs, test_runs}

pub all_fit : (files : List ProjectFile) → ((bench : Bench) → FitsBench files bench → All FitsRun (bench_runs files bench)) → (benches : List Bench) → All (FitsBench files) benches → All FitsRun (test_runs files benches)
all_fit files one [] all = All-nil FitsRun
all_fit files one (bench ∷ benches) all =
    All-append FitsRun (bench_runs files bench) (test_runs files benches) (one bench (All-head (FitsBench files) bench benches all)) (all_fit files one benches (All-tail (FitsBench files) bench benches all))
