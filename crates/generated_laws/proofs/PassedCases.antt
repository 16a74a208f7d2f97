-- How many cases there are, and how many have passed, where each run has ended and passed.
use Rattle.std.proofs.Common.{◌≡◌, ℕ, suc, ◌+◌, ◌<◌, Bool, true, false, cond, List, [], ◌∷◌, ◌++◌, length, Option, Some, refl, sym, ap, subst, ◌∙◌, arith}
use Rattle.std.specs.Prelude.{slice_get, count_by, codes}
use Rattle.std.specs.List.{flat_map, list_all}
use Rattle.std.specs.Option.{option_map}
use Rattle.std.proofs.lemmas.Bool.{cond-true, and_parts, and_from, or_right}
use Rattle.std.proofs.lemmas.List.{length-append, length-map}
use Rattle.std.proofs.lemmas.List.Concat.{flat_map-cons}
use Rattle.std.proofs.lemmas.List.Sums.{sum_by-append, sum_by-cons}
use Rattle.std.proofs.lemmas.Option.{slice_get_within, get_or_from_slice_get}
use Rattle.base.specs.declared.child.Request.{Request}
use Rattle.base.specs.declared.child.Exit.{Exit}
use Rattle.base.specs.declared.child.Event.{Event}
use Rattle.base.specs.declared.child.MaybeText.{MaybeText}
use Rattle.base.specs.declared.child.MaybeText.TheVariants.{Nothing, Given}
use Rattle.base_outcomes.specs.declared.outcome.Outcome.TheVariants as outcome
use Rattle.testbench_runs.specs.declared.runs.TestRun.{TestRun}
use Rattle.testbench_runs.specs.declared.ends.RunEnd.{RunEnd}
use Rattle.testbench_runs.specs.declared.ends.Verdict.{Verdict}
use Rattle.testbench_runs.specs.BenchJobs.{bench_request}
use Rattle.testbench_runs.specs.Runs.{name_of_case, counted_cases, case_names}
use Rattle.testbench_runs.specs.Verdicts.{verdicts, run_verdicts, is_passed, is_passed_verdict, ended_run}
use Rattle.run_spec.specs.TestJournal.{TestSetting, IsWholeTests, progress_of_tests}
use Rattle.run_tests.specs.Results.{run_exit, run_end, run_ends, test_ends}
use Rattle.run_spec.specs.ChildJournal.{Answered}
use Rattle.report.specs.Counts.{all_verdicts, has_run_passed, have_all_passed, tests_outcome}
use Rattle.generated_laws.specs.Passes.{PassesAll, case_count}
use Rattle.run_tests.proofs.TestsEnded.{exits}

-- all pass
count_all : (statuses : List Verdict) → list_all is_passed_verdict statuses ≡ true → count_by is_passed_verdict statuses ≡ length statuses
count_all [] all = refl
count_all (first ∷ rest) all =
    let parts = and_parts (is_passed_verdict first) (list_all is_passed_verdict rest) all in
    let here : cond {A = ℕ} (is_passed_verdict first) 1 0 ≡ 1 = cond-true (is_passed_verdict first) 1 0 parts.0 in
    sum_by-cons (λ v. cond {A = ℕ} (is_passed_verdict v) 1 0) first rest ∙ omega (arith, here, count_all rest parts.1)

-- each case of a run has a verdict
verdict_count : (cases : List (List ℕ)) (whole : Bool) (code : ℕ) (results : MaybeText) → length (verdicts cases whole code results) ≡ length (cond whole (codes "all" ∷ []) cases)
unfolding verdicts
verdict_count cases true code Nothing = refl
verdict_count cases true code (Given text) = refl
verdict_count cases false code Nothing = length-map cases _
verdict_count cases false code (Given text) = length-map cases _

run_count : (run : TestRun) (exit : Exit) → length (run_verdicts run exit) ≡ length (case_names run)
run_count run exit = verdict_count run.cases run.whole exit.code exit.results ∙ sym (length-map (counted_cases run) (name_of_case run))

-- the exits of runs, with which all have passed
abbrev Pass : (ℕ → Option Exit) → List TestRun → Type 0
Pass exit_of runs = (k : ℕ) (run : TestRun) → slice_get runs k ≡ Some run → (exit : Exit) × (exit_of k ≡ Some exit) × (is_passed run exit ≡ true)

record AreCounted (runs : List TestRun) (ends : List RunEnd) : Type 0 where
  total : length (all_verdicts ends) ≡ case_count runs
  passed : count_by is_passed_verdict (all_verdicts ends) ≡ case_count runs
  all : have_all_passed ends ≡ true

counted : (exit_of : ℕ → Option Exit) (runs : List TestRun) → Pass exit_of runs → AreCounted runs (run_ends exit_of runs)
counted exit_of [] pass = record { total = refl; passed = refl; all = refl }
counted exit_of (run ∷ runs) pass =
    let own = pass 0 run refl in
    let exit : Exit = own.0 in
    let end : RunEnd = ended_run run exit in
    let rest : List RunEnd = run_ends (λ k. exit_of (suc k)) runs in
    let others : AreCounted runs rest = counted (λ k. exit_of (suc k)) runs (λ k other found. pass (suc k) other found) in
    let verdicts_are : all_verdicts (end ∷ rest) ≡ run_verdicts run exit ++ all_verdicts rest = flat_map-cons (λ (e : RunEnd). e.verdicts) end rest in
    let names_are : flat_map case_names (run ∷ runs) ≡ case_names run ++ flat_map case_names runs = flat_map-cons case_names run runs in
    let cases : case_count (run ∷ runs) ≡ length (case_names run) + case_count runs = ap length names_are ∙ length-append (case_names run) (flat_map case_names runs) in
    let total : length (all_verdicts (end ∷ rest)) ≡ length (run_verdicts run exit) + length (all_verdicts rest) = ap length verdicts_are ∙ length-append (run_verdicts run exit) (all_verdicts rest) in
    let passed : count_by is_passed_verdict (all_verdicts (end ∷ rest)) ≡ count_by is_passed_verdict (run_verdicts run exit) + count_by is_passed_verdict (all_verdicts rest) =
    ap (count_by is_passed_verdict) verdicts_are ∙ sum_by-append (λ v. cond (is_passed_verdict v) 1 0) (run_verdicts run exit) (all_verdicts rest) in
    let here : length (run_verdicts run exit) ≡ length (case_names run) = run_count run exit in
    let good : count_by is_passed_verdict (run_verdicts run exit) ≡ length (run_verdicts run exit) = count_all (run_verdicts run exit) own.2 in
    subst (λ (o : Option Exit). AreCounted (run ∷ runs) (run_end run o ∷ rest)) (sym own.1) (record {
      total = omega (arith, total, here, others.total, cases);
      passed = omega (arith, passed, good, here, others.passed, cases);
      all = and_from (has_run_passed end) (have_all_passed rest) own.2 others.all;
    })

module _ (answer : Request → Exit) (setting : TestSetting) (going : setting.plan.fail_fast ≡ false) (passes : PassesAll answer setting.plan setting.built)
    (events : List Event) (whole : IsWholeTests setting events) (answered : Answered answer events) where
  all_pass : Pass (run_exit (progress_of_tests setting events).ends) setting.plan.runs
  all_pass k run found =
      let lt : k < length setting.plan.runs = slice_get_within setting.plan.runs k run found in
      let request : Request = bench_request run setting.plan.simulator setting.built in (
        answer request,
        exits answer setting going events whole answered k request lt (ap (option_map (λ r. bench_request r setting.plan.simulator setting.built)) found),
        subst (λ (r : TestRun). is_passed r (answer (bench_request r setting.plan.simulator setting.built)) ≡ true) (get_or_from_slice_get setting.plan.runs k run run found) (passes k run lt),
      )

  ends_counted : AreCounted setting.plan.runs (test_ends setting events)
  ends_counted = counted (run_exit (progress_of_tests setting events).ends) setting.plan.runs all_pass

  pub total_is : length (all_verdicts (test_ends setting events)) ≡ case_count setting.plan.runs
  total_is = ends_counted.total

  pub passed_is : count_by is_passed_verdict (all_verdicts (test_ends setting events)) ≡ case_count setting.plan.runs
  passed_is = ends_counted.passed

  -- so that failed tests are not what is answered
  pub done : (exit_0 : Bool) → tests_outcome (test_ends setting events) exit_0 ≡ outcome.Done
  done exit_0 = cond-true _ outcome.Done outcome.TestsFailed (or_right exit_0 (have_all_passed (test_ends setting events)) ends_counted.all)
