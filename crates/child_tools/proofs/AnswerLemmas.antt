-- What is found in a text, and which job an input is.
use Rattle.std.proofs.Common.{◌≡◌, ℕ, true, false, true≢false, Option, Some, None, List, refl, sym, ap, ◌∙◌}
use Rattle.std.specs.Prelude.{IfSome, IsSome, MatchOption}
use Rattle.base.specs.declared.design.Scan.{Scan}
use Rattle.base.specs.declared.design.UnitFault.{UnitFault}
use Rattle.base.specs.declared.lexical.LexFault.{LexFault}
use Rattle.base.specs.declared.lexical.Tokens.{Tokens}
use Rattle.vhdl_spec.proofs.OneFinding.{one_finding}
use Rattle.vhdl_spec.specs.Scans.{Finding, Clean, Lexical, Grammatical, IsScanOf, IsScanner}
use Rattle.vhdl_spec.specs.Tokens.{HasFault}
use Rattle.vhdl_spec.specs.Units.{AreTokensOf, HasUnitFault}
use Rattle.child_compile_request.specs.Jobs.{IsJob, job_bytes}
use Rattle.child_compile_request.specs.Reading.{job_at}
use Rattle.child_compile_request.specs.declared.reading.CompileJob.{CompileJob}
use Rattle.child_tools.specs.Answers.{answer, answer_by, not_vhdl, scripted}
use Rattle.child_tools.specs.Found.{IsFoundClean, clean_scan}

-- ## Findings

pub lexical_found : (text : List ℕ) (fault : LexFault) → HasFault text fault → IsFoundClean text None
lexical_found text fault has = (Lexical fault, has, refl)

pub units_found : (text : List ℕ) (tokens : Tokens) (fault : UnitFault) → AreTokensOf text tokens → HasUnitFault text tokens.list fault → IsFoundClean text None
units_found text tokens fault are has = (Grammatical fault, (are.0, are.1, rw are.2.list at has), refl)

faulty : (job : CompileJob) (finding : Finding) → clean_scan finding ≡ None → answer_by job finding ≡ not_vhdl job.name
unfolding answer_by
faulty job (Clean scan) none = let never : ⊥ = cc in absurd never
faulty job (Lexical fault) none = refl
faulty job (Grammatical fault) none = refl

module _ (scan : List ℕ → Finding) (is : IsScanner scan) (job : CompileJob) where
  -- a text with a fault
  pub answers_fault : IsFoundClean job.text None → not_vhdl job.name ≡ answer scan job
  answers_fault found = sym (ap (answer_by job) (one_finding job.text (scan job.text) found.0 (is job.text) found.1) ∙ faulty job found.0 found.2)

  -- a text with a scan
  pub answers_scan : (one : Scan) → IsScanOf job.text one → scripted job one ≡ answer scan job
  unfolding answer_by
  answers_scan one found = sym (ap (answer_by job) (one_finding job.text (scan job.text) (Clean one) (is job.text) found))

-- ## Jobs

module _ (input : List ℕ) (takes : (job : CompileJob) → job_at input ≡ Some job → IsJob job × (input ≡ job_bytes job)) (again : (job : CompileJob) → IsJob job → job_at (job_bytes job) ≡ Some job) where
  -- no job is read of bytes that aren't those of one
  no_job : ((job : CompileJob) → IsJob job → input ≡ job_bytes job → ⊥) → job_at input ≡ None
  no_job none = by (job_at input) refl where
    by : (read : Option CompileJob) → job_at input ≡ read → read ≡ None
    by None is = refl
    by (Some job) is = let told = takes job is in absurd (none job told.0 told.1)

  pub job_is : (found : Option CompileJob) → IfSome found (λ job. IsJob job × (input ≡ job_bytes job)) → ((job : CompileJob) → IsJob job → input ≡ job_bytes job → IsSome found) → MatchOption found (job_at input ≡ None) (λ job. job_at input ≡ Some job)
  job_is None is some = no_job (λ job fits spelled. let told : false ≡ true = some job fits spelled in true≢false (sym told))
  job_is (Some job) is some = ap job_at is.1 ∙ again job is.0
