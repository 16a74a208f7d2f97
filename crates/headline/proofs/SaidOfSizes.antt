-- The outcome and text of a run with the generated project of each size.
use Rattle.std.proofs.Common.{◌≡◌, ℕ, zero, suc, ◌+◌, ◌<◌, ◌≤◌, List, length, ap, subst₂, ◌∙◌, arith}
use Rattle.std.specs.Prelude.{nat_lt}
use Rattle.std.proofs.lemmas.Bool.{cond-true, lt-ltb}
use Rattle.base.specs.declared.child.Event.{Event}
use Rattle.base.specs.declared.child.Exit.{Exit}
use Rattle.base.specs.declared.child.Request.{Request}
use Rattle.base_outcomes.specs.declared.outcome.Outcome.TheVariants.{Done}
use Rattle.memory_children.specs.OneAnswer.{IsLoopAnswer}
use Rattle.project_file.specs.Csv.{listed_command}
use Rattle.project_reading.specs.Reading.{SourceReading}
use Rattle.project_reading.specs.declared.linking.ReadProject.{ReadProject}
use Rattle.run_tests.specs.Libraries.{libraries}
use Rattle.vhdl_spec.specs.Scans.{Finding, IsScanner}
use Rattle.generated_project.specs.Files.{edited_package, files_in, unedited}
use Rattle.generated_project.specs.Lines.{count_lines}
use Rattle.generated_sources.specs.ListedNumbers.{listed_numbers}
use Rattle.generated_laws.proofs.Builds.{changes, makes_all}
use Rattle.generated_laws.proofs.Graphs.{graph_count}
use Rattle.generated_laws.proofs.Touched.{touched_by_number}
use Rattle.generated_laws.proofs.Uses.{number_placed}
use Rattle.generated_laws.specs.NumberedBuilds.{MakesNumbered}
use Rattle.generated_laws.specs.NumberedGraphs.{AreInOrder, ordered_number}
use Rattle.generated_laws.proofs.GeneratedCounts.{gives, said_is}
use Rattle.generated_laws.specs.Counted.{passed_said}
use Rattle.generated_laws.specs.Edits.{ChangesFile, MakesAll, touched_files}
use Rattle.generated_laws.specs.Passes.{PassesAll, case_count}
use Rattle.generated_runs.specs.Ran.{RanGenerated}
use Rattle.generated_runs.specs.Sources.{first_reading, plan_of, runs_in, second_reading}
use Rattle.generated_runs.specs.declared.options.GenerateOptions.{GenerateOptions}
use Rattle.generated_runs.specs.declared.options.GeneratedSaid.{GeneratedSaid}
use Rattle.headline.specs.SaidOfSizes.{made_artefact, said_of_size}
use Rattle.headline.proofs.BothReadings.{after_edit, are_in_order, before_edit, first_found, order, second_found}
use Rattle.headline.proofs.MadeNumbers.{made_differ, makes_numbered}
use Rattle.headline.proofs.PassedRuns.{all_pass, are_testable, two_cases}

-- the package that is edited is one of them
edited_within : (count : ℕ) → 1 ≤ count → (1 ≤ edited_package count) × (edited_package count ≤ count)
edited_within zero some = absurd (omega (arith, some))
edited_within (suc zero) some = (omega arith, omega arith)
edited_within (suc (suc more)) some = let is : edited_package (suc (suc more)) ≡ 2 = cond-true (nat_lt 1 (suc (suc more))) 2 1 (lt-ltb 1 (suc (suc more)) (omega arith)) in (omega (arith, is), omega (arith, is))

module _ (scan : List ℕ → Finding) (scans : IsScanner scan) (answer : Request → Exit) (is : IsLoopAnswer answer) (options : GenerateOptions) (some : 1 ≤ options.packages) (low : options.packages ≤ 4095) where
  abbrev count : ℕ
  count = options.packages

  abbrev edited : ℕ
  edited = edited_package options.packages

  abbrev numbers : List ℕ
  numbers = listed_numbers options.packages

  abbrev ordered : List ℕ
  ordered = order options.packages some low

  abbrev read : ReadProject
  read = before_edit options.packages some low

  abbrev again : ReadProject
  again = after_edit options.packages some low

  are : AreInOrder count listed_command numbers ordered
  are = are_in_order options.packages some low

  within : (1 ≤ edited) × (edited ≤ count)
  within = edited_within options.packages some

  makes : MakesNumbered count listed_command made_artefact answer
  makes = makes_numbered answer is options.packages (omega (arith, low))

  first_makes : MakesAll answer read.graph
  first_makes = makes_all count listed_command numbers ordered are made_artefact answer makes unedited

  second_makes : MakesAll answer again.graph
  second_makes = makes_all count listed_command numbers ordered are made_artefact answer makes edited

  -- where the edited file is
  placed : (position : ℕ) × (position < count + 1) × (ordered_number numbers ordered position ≡ edited)
  placed = number_placed count listed_command numbers ordered are edited within.1

  edit_changes : ChangesFile answer placed.0 read.graph again.graph
  edit_changes = changes count listed_command numbers ordered are made_artefact answer makes edited placed.0 within.0 placed.1 placed.2 (made_differ edited within.0)

  runs_pass : PassesAll answer (plan_of again) (libraries answer again.graph)
  runs_pass = all_pass count some low answer is (libraries answer again.graph) (are_testable answer is count numbers ordered are edited)

  -- ## The numbers

  abbrev lines_of : (first second passed : ℕ) → GeneratedSaid
  lines_of first second passed = record { outcome = Done; text = count_lines (record { files = files_in count; first = first; second = second; passed = passed; total = passed }) }

  said_so : (first second passed : ℕ) {f s p : ℕ} → first ≡ f → second ≡ s → passed ≡ p → lines_of first second passed ≡ lines_of f s p
  said_so first second passed {f} {s} {p} one two three = ap (λ (n : ℕ). lines_of n second passed) one ∙ ap (λ (n : ℕ). lines_of f n passed) two ∙ ap (lines_of f s) three

  numbers_are : passed_said options placed.0 read again ≡ said_of_size options.packages
  numbers_are =
      said_so (length read.graph) (touched_files read.graph placed.0) (case_count (runs_in again))
      (graph_count count listed_command numbers ordered are unedited) (touched_by_number count listed_command numbers ordered are edited placed.0 placed.1 placed.2) (two_cases count some low)

  pub said_of : (said : GeneratedSaid) (events : List Event) → RanGenerated answer options (first_reading scan options) (second_reading scan options) (gives said) events → said ≡ said_of_size options.packages
  said_of said events ran =
      said_is answer options read again first_makes second_makes said events
      (subst₂ (λ (r s : SourceReading). RanGenerated answer options r s (gives said) events) (first_found scan scans options some low) (second_found scan scans options some low) ran) runs_pass placed.0 edit_changes
      ∙ numbers_are
