use Rattle.testbench_runs.specs.BenchJobs.{IsBenchJob, bench_input}
use Rattle.child_test_request.specs.Reading.{bench_at}
use Rattle.child_compile_request.proofs.Spelled.{same_spelled}
use Rattle.child_test_request.proofs.BenchFields.{bench_takes, bench_again}
use Rattle.child_test_request.proofs.Sizes.{run_is_job}
use Rattle.child_test_request.proofs.laws.laws_of_bench_jobs.Goals as goal

pub returns-clause-takes : goal.returns-clause-takes
returns-clause-takes c = bench_takes

pub returns-clause-again : goal.returns-clause-again
returns-clause-again c = bench_again

pub returns-clause-same : goal.returns-clause-same
returns-clause-same c = same_spelled bench_at bench_input IsBenchJob bench_again

pub returns-clause-runs : goal.returns-clause-runs
returns-clause-runs c = run_is_job
