-- What the simulator that is part of the program answers for a run of one case.
use Rattle.std.proofs.Common.{◌≡◌, ℕ, ◌≤◌, true, false, List, length, Option, refl, ap, ◌∙◌, arith}
use Rattle.std.specs.Prelude.{All, codes}
use Rattle.std.specs.List.{list_any}
use Rattle.std.specs.Option.{option_map_or}
use Rattle.std.proofs.lemmas.Bool.{not-true}
use Rattle.std.proofs.lemmas.List.Elements.{All-weaker}
use Rattle.std.proofs.lemmas.List.Folds.{list_any-from_Any, list_any_none}
use Rattle.base.specs.declared.child.MaybeText.TheVariants.{Given}
use Rattle.base.specs.declared.graph.BuiltFile.{BuiltFile}
use Rattle.base.specs.Graphs.{IsBuilt}
use Rattle.vhdl_spec.specs.Scans.{Finding}
use Rattle.testbench_runs.specs.declared.runs.TestRun.{TestRun}
use Rattle.testbench_runs.specs.declared.jobs.BenchJob.{BenchJob}
use Rattle.testbench_runs.specs.Runs.{FitsRun, results_path, name_of_case}
use Rattle.testbench_runs.specs.BenchJobs.{bench_job, bench_request, bench_input}
use Rattle.child_test_request.proofs.BenchFields.{bench_again}
use Rattle.child_test_request.proofs.Sizes.{run_is_job}
use Rattle.child_lines.specs.Ends.{bad_request}
use Rattle.child_lines.specs.Lines.{lines}
use Rattle.child_tools.specs.Benches.{all_done, bench_answer, cases_from, done_line, fails, full_name, has_bench, is_bench_file, is_entity_line, is_failure, simulation, start_line}
use Rattle.memory_children.specs.Answers.{child_end, loop_answer, second_word, taken_exit}
use Rattle.generated_project.specs.Files.{bench_path}
use Rattle.generated_sources.specs.BenchScans.{bench_entity_name}
use Rattle.generated_sources.specs.PackageLinks.{used_library}
use Rattle.generated_children.specs.TestedBench.{AreTestable, IsBuiltBench, case_run, first_case, second_case, passing_exit, lets_pass}
use Rattle.generated_children.specs.CompiledTexts.{bench_artefact}

-- a run of a case fits
case_fits : (name : List ℕ) → length name ≤ 100 → FitsRun (case_run name)
unfolding used_library bench_entity_name bench_path
case_fits name short = record { library = omega arith; bench = omega arith; architecture = omega arith; few = omega arith; cases = omega (arith, short); path = omega arith }

-- the word chooses the simulator
simulated : (scan : List ℕ → Finding) (word input : List ℕ) → word ≡ codes "child-bench" → child_end scan word input ≡ simulation input
unfolding child_end
simulated scan word input is = rw is refl

-- its input is the job of the run
run_answered : (run : TestRun) (simulator : List (List ℕ)) (built : List BuiltFile) → FitsRun run → IsBuilt built → simulation (bench_input (bench_job run built)) ≡ bench_answer (bench_job run built)
unfolding simulation
run_answered run simulator built fits is = ap (λ (job : Option BenchJob). option_map_or bench_answer job bad_request) (bench_again (bench_job run built) (run_is_job run built fits is))

module _ (built : List BuiltFile) (are : AreTestable built) where
  file_has : (name : List ℕ) (file : BuiltFile) → IsBuiltBench file → is_bench_file (bench_job (case_run name) built) file ≡ true
  unfolding bench_artefact bench_entity_name used_library is_entity_line
  file_has name file is = rw (is.library, is.artefact) refl

  found : (name : List ℕ) → has_bench (bench_job (case_run name) built) ≡ true
  found name = list_any-from_Any (is_bench_file (bench_job (case_run name) built)) built (are.bench.0, are.bench.1, are.bench.2, are.bench.3, file_has name are.bench.1 are.bench.4)

  none_fails : (name : List ℕ) → All (λ file. lets_pass name file.artefact ≡ true) built → fails built (full_name (bench_job (case_run name) built) name) ≡ false
  unfolding full_name
  none_fails name spared =
      list_any_none (λ (file : BuiltFile). list_any (is_failure (name_of_case (case_run name) name)) (lines file.artefact)) built
      (All-weaker (λ file. lets_pass name file.artefact ≡ true) (λ file. list_any (is_failure (name_of_case (case_run name) name)) (lines file.artefact) ≡ false) (λ file is. not-true (list_any (is_failure (name_of_case (case_run name) name)) (lines file.artefact)) is) built spared)

  passes : (name : List ℕ) → All (λ file. lets_pass name file.artefact ≡ true) built → bench_answer (bench_job (case_run name) built) ≡ all_done (start_line name)
  unfolding bench_answer cases_from
  passes name spared = rw (found name, none_fails name spared) refl

first_taken : (path : List ℕ) → taken_exit (Given path) (all_done (start_line first_case)) ≡ passing_exit first_case
unfolding taken_exit all_done start_line done_line first_case
first_taken path = refl

second_taken : (path : List ℕ) → taken_exit (Given path) (all_done (start_line second_case)) ≡ passing_exit second_case
unfolding taken_exit all_done start_line done_line second_case
second_taken path = refl

-- so what is taken of it is what is taken of a case that passes
answered : (scan : List ℕ → Finding) (simulator : List (List ℕ)) (built : List BuiltFile) (name : List ℕ) → second_word simulator ≡ codes "child-bench" → AreTestable built → length name ≤ 100 → All (λ file. lets_pass name file.artefact ≡ true) built
    → loop_answer scan (bench_request (case_run name) simulator built) ≡ taken_exit (Given (results_path (case_run name))) (all_done (start_line name))
answered scan simulator built name word are short spared =
    ap (taken_exit (Given (results_path (case_run name))))
    (simulated scan (second_word simulator) (bench_input (bench_job (case_run name) built)) word ∙ run_answered (case_run name) simulator built (case_fits name short) are.fits ∙ passes built are name spared)

first_short : length first_case ≤ 100
unfolding first_case
first_short = omega arith

second_short : length second_case ≤ 100
unfolding second_case
second_short = omega arith

pub first_passes : (scan : List ℕ → Finding) (simulator : List (List ℕ)) (built : List BuiltFile) → second_word simulator ≡ codes "child-bench" → AreTestable built → loop_answer scan (bench_request (case_run first_case) simulator built) ≡ passing_exit first_case
first_passes scan simulator built word are = answered scan simulator built first_case word are first_short are.first ∙ first_taken (results_path (case_run first_case))

pub second_passes : (scan : List ℕ → Finding) (simulator : List (List ℕ)) (built : List BuiltFile) → second_word simulator ≡ codes "child-bench" → AreTestable built → loop_answer scan (bench_request (case_run second_case) simulator built) ≡ passing_exit second_case
second_passes scan simulator built word are = answered scan simulator built second_case word are second_short are.second ∙ second_taken (results_path (case_run second_case))
