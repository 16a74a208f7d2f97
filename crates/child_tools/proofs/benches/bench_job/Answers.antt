-- The job is the one that the bytes spell.
use Rattle.std.proofs.Common.{arith}
use Rattle.child_tools.proofs.Read.{job_is}
use Rattle.child_tools.proofs.benches.bench_job.Goals as goal

pub returns : goal.returns
returns c = job_is c.args.input.now (λ job. c.laws_of_bench_jobs.ensures.takes c.args.input.now job (λ i. omega (arith, c.type_inv.input i))) c.laws_of_bench_jobs.ensures.again c.in_ok-job.job c.in_ok-job.ensures.found c.in_ok-job.ensures.some
