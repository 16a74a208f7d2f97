-- The answer from a case on.
use Rattle.std.proofs.Common.{◌≡◌, ℕ, ◌+◌, ◌<◌, ◌≤◌, Bool, true, false, cond, List, ◌∷◌, ◌++◌, length, get_or, drop, sym, ap, ◌∙◌}
use Rattle.std.proofs.lemmas.List.{drop_all, drop_more}
use Rattle.base.specs.declared.child.Exit.{Exit}
use Rattle.testbench_runs.specs.declared.jobs.BenchJob.{BenchJob}
use Rattle.child_tools.specs.Benches.{all_done, cases_from, failed_case, fails, full_name, start_line}

module _ (job : BenchJob) (results : List ℕ) (names : List (List ℕ)) (i : ℕ) (name : List ℕ) (all : Exit) (within : i < length names) (is : name ≡ get_or names i name) (so_far : cases_from job results (drop i names) ≡ all) where
  here : cases_from job results (name ∷ drop (i + 1) names) ≡ all
  here = ap (cases_from job results) (ap (λ (first : List ℕ). first ∷ drop (i + 1) names) is ∙ sym (drop_more names i name within)) ∙ so_far

  next : (failed : Bool) → fails job.built (full_name job name) ≡ failed → all ≡ cond failed (failed_case (full_name job name) (results ++ start_line name)) (cases_from job (results ++ start_line name) (drop (i + 1) names))
  unfolding cases_from
  next failed says = sym here ∙ ap (λ (b : Bool). cond b (failed_case (full_name job name) (results ++ start_line name)) (cases_from job (results ++ start_line name) (drop (i + 1) names))) says

  -- this one fails
  pub fails_here : fails job.built (full_name job name) ≡ true → failed_case (full_name job name) (results ++ start_line name) ≡ all
  fails_here says = sym (next true says)

  -- it passes
  pub passes_here : fails job.built (full_name job name) ≡ false → cases_from job (results ++ start_line name) (drop (i + 1) names) ≡ all
  passes_here says = sym (next false says)

-- all have passed
pub all_pass : (job : BenchJob) (results : List ℕ) (names : List (List ℕ)) (i : ℕ) (all : Exit) → length names ≤ i → cases_from job results (drop i names) ≡ all → all_done results ≡ all
unfolding cases_from
all_pass job results names i all long so_far = sym (ap (cases_from job results) (drop_all i names long)) ∙ so_far
