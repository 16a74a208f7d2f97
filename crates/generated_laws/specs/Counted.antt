-- The outcome and text of a run with the generated project if all of its files are made and all of its cases pass.
use Rattle.std.specs.Prelude.{◌≡◌, ℕ, List, length, Option, Some}
use Rattle.base_outcomes.specs.declared.outcome.Outcome.TheVariants as outcome
use Rattle.testbench_runs.specs.declared.ends.TestEnd.{TestEnd}
use Rattle.testbench_runs.specs.declared.runs.TestRun.{TestRun}
use Rattle.report.specs.Counts.{all_verdicts, tally}
use Rattle.project_reading.specs.declared.linking.ReadProject.{ReadProject}
use Rattle.generated_project.specs.Files.{files_in}
use Rattle.generated_project.specs.Lines.{count_lines}
use Rattle.generated_runs.specs.declared.options.GenerateOptions.{GenerateOptions}
use Rattle.generated_runs.specs.declared.options.GeneratedSaid.{GeneratedSaid}
use Rattle.generated_runs.specs.Sources.{runs_in}
use Rattle.generated_laws.specs.Edits.{touched_files}
use Rattle.generated_laws.specs.Passes.{case_count}

-- The tests have come to their end, each case of their runs has a verdict, and all have passed.
pub record HavePassed (runs : List TestRun) (tests : Option TestEnd) : Type 0 where
  pub end : TestEnd
  pub is_end : tests ≡ Some end
  pub total : (tally (all_verdicts end.runs)).total ≡ case_count runs
  pub passed : (tally (all_verdicts end.runs)).passed ≡ case_count runs

-- outcome and text if the first build has compiled all files, the second build exactly the files that the edit touches, and all
-- cases have passed
abbrev pub passed_said : GenerateOptions → (edited : ℕ) → (read again : ReadProject) → GeneratedSaid
passed_said options edited read again =
    record { outcome = outcome.Done; text = count_lines (record { files = files_in options.packages; first = length read.graph; second = touched_files read.graph edited; passed = case_count (runs_in again); total = case_count (runs_in again) }) }
