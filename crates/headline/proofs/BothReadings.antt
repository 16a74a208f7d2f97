-- What is read of the generated project before its edit and after it, with its tests.
use Rattle.std.proofs.Common.{◌≡◌, ℕ, ◌+◌, ◌^◌, ◌<◌, ◌≤◌, true, List, [], ◌∷◌, ◌++◌, length, Ok, refl, sym, ap, ◌∙◌, arith, length-append}
use Rattle.std.specs.Prelude.{codes, slice_get}
use Rattle.std.proofs.lemmas.List.Elements.{All-cons, All-nil}
use Rattle.base.specs.declared.limits.TheConstants.{WORD_LIMIT}
use Rattle.base.specs.Names.{FitsCommand}
use Rattle.run_spec.proofs.Ranks.{slice_get-pushed}
use Rattle.vhdl_spec.specs.Scans.{Finding, IsScanner}
use Rattle.project_file.specs.Csv.{listed_command}
use Rattle.project_reading.specs.Reading.{Found, tests_or, wanted_tests}
use Rattle.project_reading.specs.declared.linking.ReadProject.{ReadProject}
use Rattle.project_reading.specs.declared.query.QueryKind.TheVariants.{Tests}
use Rattle.generated_project.specs.Files.{edited_package, unedited}
use Rattle.generated_sources.proofs.FoundProject.{all_listed, listed_count}
use Rattle.generated_sources.specs.ListedNumbers.{listed_numbers, numbers_to, sorted_numbers}
use Rattle.generated_laws.proofs.Readings.{graph_is, reading_is, some_order}
use Rattle.generated_laws.specs.ReadFiles.{read_graph, read_project, read_scans, read_texts}
use Rattle.generated_children.proofs.BenchFound.{tests_are}
use Rattle.generated_children.specs.BenchTests.{HasBenchAt, generated_bench}
use Rattle.generated_laws.specs.NumberedGraphs.{AreInOrder}
use Rattle.generated_runs.specs.Sources.{any_name, first_reading, second_reading, query_for}
use Rattle.generated_runs.specs.declared.options.GenerateOptions.{GenerateOptions}

module _ (count : ℕ) (some : 1 ≤ count) (low : count ≤ 4095) where
  small : count < 2 ^ 64
  small = omega (arith, low)

  abbrev numbers : List ℕ
  numbers = listed_numbers count

  -- the bench is the last file
  package_count : length (sorted_numbers (numbers_to count)) ≡ count
  package_count = let sum : length (sorted_numbers (numbers_to count) ++ 0 ∷ []) ≡ length (sorted_numbers (numbers_to count)) + 1 = length-append (sorted_numbers (numbers_to count)) (0 ∷ []) in omega (arith, sum, listed_count count small)

  pub bench_last : HasBenchAt numbers count
  bench_last = record {
    distinct = (all_listed count small).distinct;
    there = ap (slice_get (sorted_numbers (numbers_to count) ++ 0 ∷ [])) (sym package_count) ∙ slice_get-pushed (sorted_numbers (numbers_to count)) 0;
  }

  one_bench : tests_or (Ok (generated_bench count ∷ [])) ≡ Ok (generated_bench count ∷ [])
  one_bench = refl

  tests_wanted : (edited : ℕ) → wanted_tests true (read_project count) (read_texts count edited) (read_scans count edited) ≡ Ok (generated_bench count ∷ [])
  unfolding wanted_tests
  tests_wanted edited = ap tests_or (tests_are listed_command edited numbers count bench_last) ∙ one_bench

  abbrev IsShort : List ℕ → Type 0
  IsShort word = length word ≤ WORD_LIMIT

  command_fits : FitsCommand listed_command
  command_fits = record {
    count = record { at_least = omega arith; at_most = omega arith };
    words = All-cons IsShort (codes "@self") (codes "child-analyse" ∷ []) (omega arith) (All-cons IsShort (codes "child-analyse") [] (omega arith) (All-nil IsShort));
  }

  pub order : List ℕ
  order = (some_order count unedited some low).0

  pub are_in_order : AreInOrder count listed_command numbers order
  unfolding order
  are_in_order = record { some = some; few = omega (arith, low); fits = command_fits; all = all_listed count small; ordered = (some_order count unedited some low).1 }

  -- ## What is read

  abbrev pub before_edit : ReadProject
  before_edit = record { project = read_project count; graph = read_graph count unedited order; warnings = []; tests = [] }

  abbrev pub after_edit : ReadProject
  after_edit = record { project = read_project count; graph = read_graph count (edited_package count) order; warnings = []; tests = generated_bench count ∷ [] }

module _ (scan : List ℕ → Finding) (scans : IsScanner scan) (options : GenerateOptions) (some : 1 ≤ options.packages) (low : options.packages ≤ 4095) where
  pub first_found : first_reading scan options ≡ Found (before_edit options.packages some low)
  first_found = graph_is options.packages unedited some low scan (any_name ∷ []) (order options.packages some low) scans (are_in_order options.packages some low).ordered

  pub second_found : second_reading scan options ≡ Found (after_edit options.packages some low)
  second_found =
      reading_is options.packages (edited_package options.packages) some low scan (query_for Tests) (order options.packages some low) (generated_bench options.packages ∷ []) scans (are_in_order options.packages some low).ordered
      (tests_wanted options.packages some low (edited_package options.packages))
