-- The examples of "Runs of tests".
use Rattle.std.specs.Prelude.{◌≡◌, ℕ, ◌∷◌, Bool, true, false, List, [], Some, None, map, take, codes}
use Rattle.base.specs.declared.child.Event.{Event}
use Rattle.base.specs.declared.child.Event.TheVariants.{Ended, Started}
use Rattle.base.specs.declared.child.Exit.{Exit}
use Rattle.base.specs.declared.child.MaybeText.TheVariants.{Given}
use Rattle.base.specs.declared.child.Request.{Request}
use Rattle.outside.specs.Records.{latest}
use Rattle.run_spec.specs.Moves.{IsLawfulMove, Starts, empty_schedule, start_now}
use Rattle.run_spec.specs.declared.statuses.FileStatus.TheVariants.{Compiled}
use Rattle.testbench_runs.specs.BenchJobs.{bench_request}
use Rattle.testbench_runs.specs.declared.ends.RunEnd.{RunEnd}
use Rattle.testbench_runs.specs.declared.ends.Verdict.TheVariants.{Failed, Passed, Skipped}
use Rattle.testbench_runs.specs.declared.runs.TestRun.{TestRun}
use Rattle.run_spec.specs.Steps.{step_at}
use Rattle.run_spec.specs.declared.step.Step.TheVariants.{Start, Wait}
use Rattle.run_spec.specs.TestJournal.{LawfulTests, TestSetting, progress_of_tests, test_workload}
use Rattle.report.specs.Counts.{tests_outcome}
use Rattle.report.specs.TestTexts.{test_text}
use Rattle.report.specs.Said.{run_said}
use Rattle.report.specs.declared.said.TestWords.{TestWords}
use Rattle.run_tests.specs.Requests.{borrowed_files}
use Rattle.run_tests.specs.Results.{test_ends}
use Rattle.run_tests.specs.Libraries.{libraries}
use Rattle.tests_examples.specs.Example.{Ra, a_built, command, compiler, exit, files}
use Rattle.base_outcomes.specs.declared.outcome.Outcome.TheVariants as outcome

-- one run that printed boom, of two cases of which one failed
abbrev boom : RunEnd
boom = record { names = codes "lib.t.a" ∷ codes "lib.t.b" ∷ []; verdicts = Passed ∷ Failed ∷ []; output = codes "boom" }

-- what is printed of a run with one failed case, and how the program then ends
pub record TestsSaid : Type 0 where
  pub text : test_text false false (boom ∷ []) ≡
      codes "boom\npass lib.t.a\nfail lib.t.b\n==== Summary\npass 1 of 2\nfail 1 of 2\nskip 0 of 2\nSome failed!\n"
  pub quiet : test_text false true (boom ∷ []) ≡
      codes "pass lib.t.a\nfail lib.t.b\n==== Summary\npass 1 of 2\nfail 1 of 2\nskip 0 of 2\nSome failed!\n"
  pub failed : tests_outcome (boom ∷ []) false ≡ outcome.TestsFailed
  pub ignored : tests_outcome (boom ∷ []) true ≡ outcome.Done
  pub none : tests_outcome [] false ≡ outcome.Done

-- the run of one case of the bench t of the library `lib`
abbrev run_of_case : List ℕ → TestRun
run_of_case it = record {
  library = codes "lib";
  bench = codes "t";
  architecture = codes "a";
  cases = it ∷
      [];
  whole = false;
  same_sim = false;
  path = codes "t.vhd";
}

-- to run the cases a and b of the bench t one at a time, over a.vhd with the artefact 1, to the end or up to a failure
abbrev two_runs : Bool → TestSetting
two_runs fail_fast = record {
  plan = record {
    runs = run_of_case (codes "a") ∷ run_of_case (codes "b") ∷
        [];
    simulator = command;
    fail_fast = fail_fast;
  };
  built = a_built ∷ [];
  slots = 1;
}

-- the simulator of case a starts as child 7, and ends with this exit
abbrev end_of_first : Exit → List Event
end_of_first it = Started 7 (bench_request (run_of_case (codes "a")) command (a_built ∷ [])) ∷ Ended 7 it ∷ []

-- a simulator ends with code 1, prints nothing, and leaves no results
abbrev failed_exit : Exit
failed_exit = exit 1 []

-- a simulator ends with code 0, prints nothing, and leaves results that say that case a passed
abbrev passed_exit : Exit
passed_exit = record { code = 0; output = []; results = Given (codes "test_start:a\ntest_suite_done\n") }

-- which of two simulators is started next, before and after the end of the first
pub record MovesOfTests : Type 0 where
  pub count : (test_workload (two_runs false)).count ≡ 2
  pub lawful : IsLawfulMove (test_workload (two_runs false)) empty_schedule (Starts 0 7)
  pub taken : (progress_of_tests (two_runs false) (end_of_first failed_exit)).schedule.taken ≡ 0 ∷ []
  pub ended : (progress_of_tests (two_runs false) (end_of_first failed_exit)).ends ≡ record { position = 0; exit = failed_exit } ∷ []
  pub next : start_now (test_workload (two_runs false)) (progress_of_tests (two_runs false) (end_of_first failed_exit)).schedule ≡ Some 1
  pub last : start_now (test_workload (two_runs true)) (progress_of_tests (two_runs true) (end_of_first failed_exit)).schedule ≡ None
  pub is_lawful : LawfulTests (two_runs false) (end_of_first failed_exit)
  pub waits : step_at (test_workload (two_runs false)) (progress_of_tests (two_runs false) (take 1 (end_of_first passed_exit))).schedule ≡ Wait
  pub at_first : step_at (test_workload (two_runs false)) empty_schedule ≡ Start 0
  pub second_step : step_at (test_workload (two_runs false)) (progress_of_tests (two_runs false) (end_of_first passed_exit)).schedule ≡ Start 1

-- the verdicts where one case of two was run, and the built files that its simulator is borrowed
pub record EndsOfTests : Type 0 where
  pub verdicts_of : map (λ run. run.verdicts) (test_ends (two_runs false) (end_of_first passed_exit)) ≡ (Passed ∷ []) ∷ (Skipped ∷ []) ∷ []
  pub borrowed : borrowed_files (λ it. latest it (Ra ∷ [])) files ≡ a_built ∷ []

-- a compiler that refuses b
abbrev refusing_b : Request → Exit
refusing_b request = compiler (exit 0 (codes "1")) (exit 1 []) request

-- the command-line options that tests look at: none, or `--exit-0` alone
abbrev words_with : Bool → TestWords
words_with exit_0 = record { verbose = false; quiet = false; exit_0 = exit_0; report = false }

-- how a run of the program with tests ends, what it prints first, and what a clean build makes
pub record RunsSaid : Type 0 where
  pub outcome_of : (run_said [] files (Compiled ∷ Compiled ∷ []) [] (words_with false) (Some (record { runs = boom ∷ [] }))).outcome ≡
      outcome.TestsFailed
  pub ignored : (run_said [] files (Compiled ∷ Compiled ∷ []) [] (words_with true) (Some (record { runs = boom ∷ [] }))).outcome ≡ outcome.Done
  pub build_first : take 27 (run_said [] files (Compiled ∷ Compiled ∷ []) [] (words_with false) (Some (record { runs = boom ∷ [] }))).text ≡
      codes "Compiling into lib: a.vhd p"
  pub made : libraries refusing_b files ≡ a_built ∷ []
