use Rattle.child_compile_request.specs.Jobs.{IsJob, job_bytes}
use Rattle.child_compile_request.specs.Reading.{job_at}
use Rattle.child_compile_request.proofs.Spelled.{same_spelled}
use Rattle.child_compile_request.proofs.Jobs.{job_takes, job_again}
use Rattle.child_compile_request.proofs.laws.laws_of_jobs.Goals as goal

pub returns-clause-takes : goal.returns-clause-takes
returns-clause-takes c = job_takes

pub returns-clause-again : goal.returns-clause-again
returns-clause-again c = job_again

pub returns-clause-same : goal.returns-clause-same
returns-clause-same c = same_spelled job_at job_bytes IsJob job_again
