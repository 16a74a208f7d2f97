-- The tests of the generated project: the runs of its bench, what their simulators are asked over, and how these end.
use Rattle.std.specs.Prelude.{◌≡◌, ◌⊎◌, ℕ, ◌<◌, ◌^◌, Bool, true, false, not, List, [], ◌∷◌, ◌++◌, codes, All}
use Rattle.std.specs.List.{Any, list_any}
use Rattle.base.specs.declared.child.Exit.{Exit}
use Rattle.base.specs.declared.child.MaybeText.TheVariants.{Given}
use Rattle.base.specs.declared.graph.BuiltFile.{BuiltFile}
use Rattle.base.specs.Graphs.{IsBuilt}
use Rattle.testbench_runs.specs.declared.runs.TestRun.{TestRun}
use Rattle.testbench_runs.specs.Runs.{name_of_case}
use Rattle.child_lines.specs.Lines.{lines}
use Rattle.child_tools.specs.Benches.{is_failure}
use Rattle.generated_project.specs.Files.{bench_path}
use Rattle.generated_sources.specs.BenchScans.{bench_entity_name}
use Rattle.generated_children.specs.CompiledTexts.{bench_artefact, package_artefact}
use Rattle.generated_sources.specs.PackageLinks.{used_library}

-- ## Runs

-- the bytes `one`, which name a test case of the bench
unfoldable pub first_case : List ℕ
first_case = codes "one"

-- the bytes `two`, which name a test case of the bench
unfoldable pub second_case : List ℕ
second_case = codes "two"

-- the run of a case of the bench `tb` of `lib`
abbrev pub case_run : List ℕ → TestRun
case_run name = record { library = used_library; bench = bench_entity_name; architecture = 97 ∷ []; cases = name ∷ []; whole = false; same_sim = false; path = bench_path }

-- the runs of all tests, in order
abbrev pub both_runs : List TestRun
both_runs = case_run first_case ∷ case_run second_case ∷ []

-- ## Artefacts

-- no line of an artefact says that a case of the bench fails
abbrev pub lets_pass : (name artefact : List ℕ) → Bool
lets_pass name artefact = not (list_any (is_failure (name_of_case (case_run name) name)) (lines artefact))

-- an artefact of the generated project
abbrev pub IsGenerated : List ℕ → Type 0
IsGenerated artefact = (artefact ≡ bench_artefact) ⊎ ((number : ℕ) × (noted : Bool) × (number < 2 ^ 64) × (artefact ≡ package_artefact number noted))

-- a file of the bench's library with the bench's artefact
pub record IsBuiltBench (file : BuiltFile) : Type 0 where
  pub library : file.name.library ≡ used_library
  pub artefact : file.artefact ≡ bench_artefact

-- files of which one has the bench, and none makes one of its cases fail
pub record AreTestable (built : List BuiltFile) : Type 0 where
  pub fits : IsBuilt built
  pub bench : Any IsBuiltBench built
  pub first : All (λ file. lets_pass first_case file.artefact ≡ true) built
  pub second : All (λ file. lets_pass second_case file.artefact ≡ true) built

-- ## Ends

-- the results of a case that passes: it starts, and all is done
abbrev pub passing_results : List ℕ → List ℕ
passing_results name = codes "test_start:" ++ (name ++ (10 ∷ (codes "test_suite_done" ++ 10 ∷ [])))

-- the simulator says nothing, and leaves these results
abbrev pub passing_exit : List ℕ → Exit
passing_exit name = record { code = 0; output = []; results = Given (passing_results name) }
