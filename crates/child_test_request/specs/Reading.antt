-- Reading a bench job from start to end.
use Rattle.std.specs.Prelude.{ℕ, ◌==◌, List, length, codes, Option, Some, None, if◌then◌else◌}
use Rattle.base_bytes.specs.Reading.{◌>>=◌, counted_at, text_at}
use Rattle.child_compile_request.specs.Reading.{all_built_at, behind}
use Rattle.testbench_runs.specs.declared.jobs.BenchJob.{BenchJob}

-- three texts, the cases, two texts and the files that were built, with no byte after them
unfoldable pub bench_fields_at : List ℕ → Option BenchJob
bench_fields_at bytes = do
  library ← text_at bytes
  bench ← text_at library.1
  architecture ← text_at bench.1
  cases ← counted_at text_at architecture.1
  runner_cfg ← text_at cases.1
  results ← text_at runner_cfg.1
  built ← all_built_at results.1
  if length built.1 == 0 then Some (record { library = library.0; bench = bench.0; architecture = architecture.0; cases = cases.0; runner_cfg = runner_cfg.0; results = results.0; built = built.0 }) else None

-- all of the bytes: the magic of a bench job, and its fields
unfoldable pub bench_at : List ℕ → Option BenchJob
bench_at bytes = behind (codes "VRB1") bench_fields_at bytes
