-- Which job an input is.
use Rattle.std.proofs.Common.{◌≡◌, ℕ, true, false, true≢false, Option, Some, None, List, refl, sym, ap, ◌∙◌}
use Rattle.std.specs.Prelude.{IfSome, IsSome, MatchOption}
use Rattle.testbench_runs.specs.declared.jobs.BenchJob.{BenchJob}
use Rattle.testbench_runs.specs.BenchJobs.{IsBenchJob, bench_input}
use Rattle.child_test_request.specs.Reading.{bench_at}

module _ (input : List ℕ) (takes : (job : BenchJob) → bench_at input ≡ Some job → IsBenchJob job × (input ≡ bench_input job)) (again : (job : BenchJob) → IsBenchJob job → bench_at (bench_input job) ≡ Some job) where
  -- no job is read of bytes that aren't those of one
  no_job : ((job : BenchJob) → IsBenchJob job → input ≡ bench_input job → ⊥) → bench_at input ≡ None
  no_job none = by (bench_at input) refl where
    by : (read : Option BenchJob) → bench_at input ≡ read → read ≡ None
    by None is = refl
    by (Some job) is = let told = takes job is in absurd (none job told.0 told.1)

  pub job_is : (found : Option BenchJob) → IfSome found (λ job. IsBenchJob job × (input ≡ bench_input job)) → ((job : BenchJob) → IsBenchJob job → input ≡ bench_input job → IsSome found) → MatchOption found (bench_at input ≡ None) (λ job. bench_at input ≡ Some job)
  job_is None is some = no_job (λ job fits spelled. let told : false ≡ true = some job fits spelled in true≢false (sym told))
  job_is (Some job) is some = ap bench_at is.1 ∙ again job is.0
