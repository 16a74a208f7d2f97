-- Both cases pass over what the second build makes.
use Rattle.std.proofs.Common.{◌≡◌, ℕ, zero, suc, ◌+◌, ◌^◌, ◌<◌, ◌≤◌, ◌==◌, Bool, true, List, [], ◌∷◌, length, map, get_or, refl, sym, ap, subst, ◌∙◌, arith, inl, inr}
use Rattle.std.specs.Prelude.{All, Contains, slice_index}
use Rattle.std.specs.List.{Any}
use Rattle.std.proofs.lemmas.List.{get_or_default, length-map}
use Rattle.std.proofs.lemmas.List.Elements.{All-cons, All-map, All-nil}
use Rattle.base.specs.Graphs.{IsBuilt, IsBuiltFile}
use Rattle.base.specs.declared.child.Exit.{Exit}
use Rattle.base.specs.declared.child.Request.{Request}
use Rattle.base.specs.declared.graph.BuiltFile.{BuiltFile}
use Rattle.memory_children.specs.OneAnswer.{IsLoopAnswer}
use Rattle.project_file.specs.Csv.{listed_command, listed_simulator}
use Rattle.run_tests.specs.Libraries.{libraries}
use Rattle.testbench_runs.specs.BenchJobs.{bench_request}
use Rattle.testbench_runs.specs.Verdicts.{is_passed}
use Rattle.testbench_runs.specs.declared.runs.TestRun.{TestRun}
use Rattle.generated_sources.specs.NumberedFiles.{numbered_graph}
use Rattle.generated_sources.specs.ListedNumbers.{listed_numbers}
use Rattle.generated_children.proofs.LoopExits.{answer_of}
use Rattle.generated_laws.proofs.Builds.{has_file, libraries_are}
use Rattle.generated_laws.proofs.Fitting.{name_fits}
use Rattle.generated_laws.proofs.Graphs.{order_count, ordered_within}
use Rattle.generated_laws.specs.NumberedBuilds.{numbered_built}
use Rattle.generated_laws.specs.NumberedGraphs.{AreInOrder}
use Rattle.generated_laws.specs.Passes.{PassesAll, case_count}
use Rattle.generated_runs.specs.Sources.{any_name, plan_of, runs_in}
use Rattle.generated_children.proofs.Artefacts.{testable}
use Rattle.generated_children.proofs.BenchFound.{all_are_both}
use Rattle.generated_children.proofs.PassedExits.{first_is_passed, second_is_passed}
use Rattle.generated_children.proofs.Simulations.{first_passes, second_passes}
use Rattle.generated_children.specs.TestedBench.{AreTestable, IsBuiltBench, IsGenerated, both_runs, case_run, first_case, passing_exit, second_case}
use Rattle.headline.specs.SaidOfSizes.{made_artefact}
use Rattle.headline.proofs.BothReadings.{after_edit, bench_last}
use Rattle.headline.proofs.MadeNumbers.{made_small, makes_numbered}

-- ## What simulators are asked over

made_generated : (number : ℕ) (noted : Bool) → number < 2 ^ 64 → IsGenerated (made_artefact number noted)
made_generated zero noted small = inl refl
made_generated (suc before) noted small = inr (suc before, noted, small, refl)

module _ (answer : Request → Exit) (is : IsLoopAnswer answer) (count : ℕ) (numbers order : List ℕ) (are : AreInOrder count listed_command numbers order) (edited : ℕ) where
  small : count < 2 ^ 64
  small = omega (arith, are.few)

  abbrev made : List BuiltFile
  made = libraries answer (numbered_graph listed_command edited numbers order)

  abbrev file_of : ℕ → BuiltFile
  file_of file = numbered_built made_artefact edited (slice_index numbers file)

  made_is : made ≡ map file_of order
  made_is = libraries_are count listed_command numbers order are made_artefact answer (makes_numbered answer is count small) edited

  count_is : length order ≡ count + 1
  count_is = order_count count listed_command numbers order are

  -- the number of each file
  within : (k d : ℕ) → k < length order → slice_index numbers (get_or order k d) ≤ count
  within k d lt = subst (λ (n : ℕ). slice_index numbers n ≤ count) (get_or_default order k 0 d lt) (ordered_within count listed_command numbers order are k (omega (arith, lt, count_is)))

  one_fits : (number : ℕ) → number ≤ count → IsBuiltFile (numbered_built made_artefact edited number)
  one_fits number low = record { name = name_fits number (omega (arith, low, are.few)); artefact = made_small number (number == edited) (omega (arith, low, small)) }

  all_fit : IsBuilt (map file_of order)
  all_fit = record {
    few = omega (arith, length-map order file_of, count_is, are.few);
    each = All-map IsBuiltFile file_of order (λ k d lt. one_fits (slice_index numbers (get_or order k d)) (within k d lt));
  }

  all_generated : All (λ file. IsGenerated file.artefact) (map file_of order)
  all_generated =
      All-map (λ file. IsGenerated file.artefact) file_of order
      (λ k d lt. made_generated (slice_index numbers (get_or order k d)) (slice_index numbers (get_or order k d) == edited) (let low : slice_index numbers (get_or order k d) ≤ count = within k d lt in omega (arith, low, small)))

  has_bench : Any IsBuiltBench made
  has_bench =
      let there : Contains made (numbered_built made_artefact edited 0) = has_file count listed_command numbers order are made_artefact answer (makes_numbered answer is count small) edited 0 (omega arith) in
      (there.0, numbered_built made_artefact edited 0, there.1, there.2, record { library = refl; artefact = refl })

  pub are_testable : AreTestable made
  are_testable = testable made (subst IsBuilt (sym made_is) all_fit) has_bench (subst (λ (files : List BuiltFile). All (λ file. IsGenerated file.artefact) files) (sym made_is) all_generated)

-- ## Both pass

module _ (count : ℕ) (some : 1 ≤ count) (low : count ≤ 4095) where
  pub runs_are : runs_in (after_edit count some low) ≡ both_runs
  unfolding any_name
  runs_are = all_are_both listed_command 0 (listed_numbers count) count (bench_last count some low)

  pub two_cases : case_count (runs_in (after_edit count some low)) ≡ 2
  two_cases = ap case_count runs_are

  module _ (answer : Request → Exit) (is : IsLoopAnswer answer) (built : List BuiltFile) (tests : AreTestable built) where
    abbrev Passes : TestRun → Type 0
    Passes run = is_passed run (answer (bench_request run listed_simulator built)) ≡ true

    first_answer : answer (bench_request (case_run first_case) listed_simulator built) ≡ passing_exit first_case
    first_answer = answer_of answer (bench_request (case_run first_case) listed_simulator built) (passing_exit first_case) is (λ scan scans. first_passes scan listed_simulator built refl tests)

    second_answer : answer (bench_request (case_run second_case) listed_simulator built) ≡ passing_exit second_case
    second_answer = answer_of answer (bench_request (case_run second_case) listed_simulator built) (passing_exit second_case) is (λ scan scans. second_passes scan listed_simulator built refl tests)

    pub all_pass : PassesAll answer (plan_of (after_edit count some low)) built
    all_pass =
        subst (All Passes) (sym runs_are)
        (All-cons Passes (case_run first_case) (case_run second_case ∷ []) (ap (is_passed (case_run first_case)) first_answer ∙ first_is_passed)
        (All-cons Passes (case_run second_case) [] (ap (is_passed (case_run second_case)) second_answer ∙ second_is_passed) (All-nil Passes)))
