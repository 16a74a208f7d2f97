-- What a simulator is asked: the bytes of its input, and what it is started with.
use Rattle.std.specs.Prelude.{ℕ, ◌<◌, ◌^◌, List, ◌++◌, codes, length, All}
use Rattle.std.specs.List.{flat_map}
use Rattle.base.specs.declared.graph.BuiltFile.{BuiltFile}
use Rattle.base.specs.declared.child.Request.{Request}
use Rattle.base.specs.declared.child.MaybeText.TheVariants.{Given}
use Rattle.base.specs.Bytes.{number_bytes, text_bytes}
use Rattle.base.specs.Graphs.{IsBuilt}
use Rattle.base.specs.Jobs.{all_built_bytes}
use Rattle.testbench_runs.specs.declared.runs.TestRun.{TestRun}
use Rattle.testbench_runs.specs.declared.jobs.BenchJob.{BenchJob}
use Rattle.testbench_runs.specs.Runs.{results_path}
use Rattle.testbench_runs.specs.Configuration.{configuration}

-- texts, after their number
unfoldable pub texts_bytes : List (List ℕ) → List ℕ
texts_bytes texts = number_bytes (length texts) ++ flat_map text_bytes texts

-- the input of a simulator
unfoldable pub bench_input : BenchJob → List ℕ
bench_input job =
    codes "VRB1" ++ (text_bytes job.library ++ (text_bytes job.bench ++ (text_bytes job.architecture ++ (texts_bytes job.cases ++ (text_bytes job.runner_cfg ++ (text_bytes job.results ++ all_built_bytes job.built))))))

-- A job of a simulator: its texts and their number can be spelled, and its files were built.
pub record IsBenchJob (job : BenchJob) : Type 0 where
  pub library : length job.library < 2 ^ 32
  pub bench : length job.bench < 2 ^ 32
  pub architecture : length job.architecture < 2 ^ 32
  pub few : length job.cases < 2 ^ 32
  pub cases : All (λ name. length name < 2 ^ 32) job.cases
  pub runner_cfg : length job.runner_cfg < 2 ^ 32
  pub results : length job.results < 2 ^ 32
  pub built : IsBuilt job.built

-- the job of a run over the built files
abbrev pub bench_job : TestRun → List BuiltFile → BenchJob
bench_job run built = record { library = run.library; bench = run.bench; architecture = run.architecture; cases = run.cases; runner_cfg = configuration run; results = results_path run; built = built }

-- what a simulator is started with for a run over the files that were built
abbrev pub bench_request : TestRun → List (List ℕ) → List BuiltFile → Request
bench_request run simulator built = record { command = simulator; input = bench_input (bench_job run built); results = Given (results_path run) }
