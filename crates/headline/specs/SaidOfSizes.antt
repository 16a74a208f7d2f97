-- The outcome and text of a run with the generated project of each size.
use Rattle.std.specs.Prelude.{◌≡◌, ℕ, Bool, if◌then◌else◌, List, ◌++◌}
use Rattle.base_outcomes.specs.declared.outcome.Outcome.{Outcome}
use Rattle.base_outcomes.specs.declared.outcome.Outcome.TheVariants.{Done}
use Rattle.generated_project.specs.Files.{edited_package, files_in}
use Rattle.generated_project.specs.Lines.{count_lines}
use Rattle.generated_sources.specs.NumberedFiles.{is_bench_number}
use Rattle.generated_children.specs.CompiledTexts.{bench_artefact, package_artefact}
use Rattle.generated_laws.specs.TouchedNumbers.{touched_numbers}
use Rattle.vunit_top.specs.Said.{IsSaid}
use Rattle.generated_runs.specs.declared.options.GeneratedSaid.{GeneratedSaid}

-- the artefact that the compiler that is part of the program makes of the file of a number, edited or not
abbrev pub made_artefact : (number : ℕ) → (noted : Bool) → List ℕ
made_artefact number noted = if is_bench_number number then bench_artefact else package_artefact number noted

-- All is done: the first build has compiled all files, the second build the files that the edit touches, and both cases have
-- passed.
abbrev pub said_of_size : (count : ℕ) → GeneratedSaid
said_of_size count = record {
  outcome = Done;
  text = count_lines (record { files = files_in count; first = files_in count; second = touched_numbers count (edited_package count); passed = 2; total = 2 });
}

-- A run that generates `count` packages answers `Done`, and has put the four lines if the output tells. Otherwise it answers that
-- memory ran out or that something outside failed.
pub record IsAnsweredInFull (count : ℕ) (result : Outcome) (puts : Type 0) (old new : List ℕ) : Type 0 where
  pub done : IsSaid result → result ≡ Done
  pub lines : IsSaid result → puts → new ≡ old ++ (said_of_size count).text
