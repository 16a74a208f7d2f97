-- A request of a simulator while it is written: its words, its input so far, and its results path.
use Rattle.std.specs.Prelude.{ℕ, List, ◌++◌, codes}
use Rattle.base.specs.Bytes.{number_bytes, text_bytes}
use Rattle.testbench_runs.specs.declared.runs.TestRun.{TestRun}
use Rattle.testbench_runs.specs.Runs.{results_path}
use Rattle.testbench_runs.specs.Configuration.{configuration, doubled, is_comma}
use Rattle.testbench_runs.specs.BenchJobs.{texts_bytes}

-- a name of a case after a comma, and with each comma in it doubled
abbrev pub next_case : List ℕ → List ℕ
next_case name = codes "," ++ doubled is_comma name

-- what a simulator is started with: its command, the input written so far, and the path of its results
pub record WrittenRun : Type 0 where
  pub command : List (List ℕ)
  pub input : List ℕ
  pub results : List ℕ

-- the input up to the number of the files that were built
unfoldable pub begun_run_input : TestRun → ℕ → List ℕ
begun_run_input run count =
    codes "VRB1" ++ (text_bytes run.library ++ (text_bytes run.bench ++ (text_bytes run.architecture ++ (texts_bytes run.cases ++ (text_bytes (configuration run) ++ (text_bytes (results_path run) ++ number_bytes count))))))

-- a request up to the number of the files that were built, of which none is written yet
abbrev pub begun_run : TestRun → List (List ℕ) → ℕ → WrittenRun
begun_run run simulator count = record { command = simulator; input = begun_run_input run count; results = results_path run }
