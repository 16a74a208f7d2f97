use Rattle.std.proofs.lemmas.Result.{IfOk-weaker}
use Rattle.std.proofs.Common.{arith}
use Rattle.testbench_runs.specs.BenchJobs.{IsBenchJob, bench_input}
use Rattle.child_test_request.specs.Reading.{bench_at}
use Rattle.child_test_request.proofs.BenchFields.{bench_again, bench_takes}
use Rattle.child_compile_request.proofs.Spelled.{is_given, is_one, is_that}
use Rattle.child_test_request.proofs.reading.read_bench_request.Goals as goal

pub returns-clause-found : goal.returns-clause-found
returns-clause-found c = IfOk-weaker c.job_of.result _ _ (λ given read. is_one bench_at bench_input IsBenchJob bench_takes c.args.bytes.now given (λ i. omega (arith, c.type_inv.bytes i)) read) c.job_of.ensures

pub returns-clause-some : goal.returns-clause-some
returns-clause-some c = λ job is e. IfOk-weaker c.job_of.result _ _ (λ given read. is_given bench_at bench_input IsBenchJob bench_again c.args.bytes.now given read job is e) c.job_of.ensures

pub returns-clause-only : goal.returns-clause-only
returns-clause-only c = λ job is e. IfOk-weaker c.job_of.result _ _ (λ given read. is_that bench_at bench_input IsBenchJob bench_again c.args.bytes.now given read job is e) c.job_of.ensures
