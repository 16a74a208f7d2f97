-- Artefacts, results and names of the tests of the generated project, worked out by hand.
use Rattle.std.specs.Prelude.{◌≡◌, ◌∷◌, [], true, false, codes}
use Rattle.testbench_runs.specs.Runs.{case_names, results_path, run_name}
use Rattle.generated_children.specs.TestedBench.{case_run, first_case, passing_results, second_case, lets_pass}
use Rattle.generated_children.specs.CompiledTexts.{bench_artefact, package_artefact}

-- three artefacts, which test case a line of one makes fail, and what a passing case writes and where
pub record TestExamples : Type 0 where
  pub bench : bench_artefact ≡ codes "unit entity tb\nunit architecture a of tb\n"
  pub edited : package_artefact 2 true ≡ codes "unit package p2\nscript note 1\n"
  pub plain : package_artefact 12 false ≡ codes "unit package p12\n"
  -- a line of any artefact makes a case fail
  pub fails : lets_pass first_case (codes "unit package p1\nscript fail lib.tb.one") ≡ false
  pub other : lets_pass second_case (codes "unit package p1\nscript fail lib.tb.one") ≡ true
  pub results : passing_results first_case ≡ codes "test_start:one\ntest_suite_done\n"
  pub name : run_name (case_run first_case) ≡ codes "lib.tb.one"
  pub names : case_names (case_run second_case) ≡ codes "lib.tb.two" ∷ []
  pub folder : results_path (case_run second_case) ≡ codes "vunit_out/tests/lib.tb.two/vunit_results"
