-- A job of a compiler: a file, its text, and the files that it depends on.
use Rattle.std.specs.Prelude.{ℕ, ◌≤◌, List, length}
use Rattle.base.specs.Names.{FitsName}
use Rattle.base.specs.Graphs.{IsBuilt}
use Rattle.base.specs.Jobs.{compile_input}
use Rattle.child_compile_request.specs.declared.reading.CompileJob.{CompileJob}
use Rattle.base.specs.declared.limits.TheConstants.{TEXT_LIMIT}

-- A job of a compiler: the name of its file fits, its text has at most 4,194,304 bytes, and the files below it were built.
pub record IsJob (job : CompileJob) : Type 0 where
  pub name : FitsName job.name
  pub text : length job.text ≤ TEXT_LIMIT
  pub deps : IsBuilt job.deps

-- the input of its compiler
abbrev pub job_bytes : CompileJob → List ℕ
job_bytes job = compile_input job.name job.text job.deps
