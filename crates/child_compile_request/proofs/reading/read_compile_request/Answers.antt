use Rattle.std.proofs.lemmas.Result.{IfOk-weaker}
use Rattle.std.proofs.Common.{arith}
use Rattle.child_compile_request.specs.Jobs.{IsJob, job_bytes}
use Rattle.child_compile_request.specs.Reading.{job_at}
use Rattle.child_compile_request.proofs.Jobs.{job_again, job_takes}
use Rattle.child_compile_request.proofs.Spelled.{is_given, is_one, is_that}
use Rattle.child_compile_request.proofs.reading.read_compile_request.Goals as goal

pub returns-clause-found : goal.returns-clause-found
returns-clause-found c = IfOk-weaker c.job_of.result _ _ (λ given read. is_one job_at job_bytes IsJob job_takes c.args.bytes.now given (λ i. omega (arith, c.type_inv.bytes i)) read) c.job_of.ensures

pub returns-clause-some : goal.returns-clause-some
returns-clause-some c = λ job is e. IfOk-weaker c.job_of.result _ _ (λ given read. is_given job_at job_bytes IsJob job_again c.args.bytes.now given read job is e) c.job_of.ensures

pub returns-clause-only : goal.returns-clause-only
returns-clause-only c = λ job is e. IfOk-weaker c.job_of.result _ _ (λ given read. is_that job_at job_bytes IsJob job_again c.args.bytes.now given read job is e) c.job_of.ensures
