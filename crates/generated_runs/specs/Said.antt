-- The outcome and text of a run with the generated project.
use Rattle.std.specs.Prelude.{ℕ, List, ◌++◌, Option, Some, None, if◌then◌else◌, count_by}
use Rattle.std.specs.List.{list_all}
use Rattle.base.specs.declared.child.Event.{Event}
use Rattle.outside.specs.Records.{Record}
use Rattle.base_outcomes.specs.declared.outcome.Outcome.{Outcome}
use Rattle.base_outcomes.specs.declared.outcome.Outcome.TheVariants as outcome
use Rattle.base_outcomes.specs.declared.outcome.Limit.{Limit}
use Rattle.base_outcomes.specs.declared.outcome.Refusal.{Refusal}
use Rattle.run_spec.specs.declared.statuses.FileStatus.{FileStatus}
use Rattle.run_spec.specs.ChildJournal.{Work}
use Rattle.run_spec.specs.JournalParts.{compile_part, test_part}
use Rattle.run_spec.specs.Statuses.{is_compiled, statuses_of}
use Rattle.report.specs.Outcomes.{build_outcome}
use Rattle.report.specs.Texts.{shown_bytes, build_text, refusal_text, limit_text, warning_text}
use Rattle.run_build.specs.Ran.{is_made}
use Rattle.testbench_runs.specs.declared.ends.TestEnd.{TestEnd}
use Rattle.run_tests.specs.Results.{test_ends}
use Rattle.report.specs.Counts.{all_verdicts, tally, tests_outcome}
use Rattle.project_reading.specs.Reading.{SourceReading, Stops, Over, Found}
use Rattle.project_reading.specs.declared.linking.ReadProject.{ReadProject}
use Rattle.generated_project.specs.Files.{files_in}
use Rattle.generated_project.specs.Lines.{count_lines}
use Rattle.generated_runs.specs.declared.options.GenerateOptions.{GenerateOptions}
use Rattle.generated_runs.specs.declared.options.GeneratedSaid.{GeneratedSaid}
use Rattle.generated_runs.specs.Sources.{first_work, first_records, second_work, setting_of}

-- neither out of memory nor a fault
abbrev pub IsAnswer : Outcome → Type 0
IsAnswer outcome.NoMemory = ⊥
IsAnswer (outcome.OutsideFault which) = ⊥
IsAnswer answer = Unit {0}

-- outcome and text if the sources are refused for this reason
abbrev pub refusal_said : Refusal → GeneratedSaid
refusal_said reason = record { outcome = outcome.Refused reason; text = refusal_text reason }

-- outcome and text if a quantity is over this limit
abbrev pub limit_said : Limit → (number : ℕ) → GeneratedSaid
limit_said limit number = record { outcome = outcome.OverLimit limit; text = limit_text limit number }

-- outcome and text of a build with these statuses; the text of warnings comes first
abbrev pub statuses_said : ReadProject → List FileStatus → GeneratedSaid
statuses_said read statuses = record { outcome = build_outcome read.graph statuses; text = warning_text read.project.files read.warnings ++ build_text shown_bytes read.graph statuses }

-- outcome and text after both builds and the tests: how many files each build compiled, and how many cases have passed
abbrev pub counted_said : GenerateOptions → (first second : ℕ) → TestEnd → GeneratedSaid
counted_said options first second end =
    let cases = tally (all_verdicts end.runs) in
    record { outcome = tests_outcome end.runs options.exit_0; text = count_lines (record { files = files_in options.packages; first = first; second = second; passed = cases.passed; total = cases.total }) }

-- outcome and text after the second build: by its statuses if no test ran, and otherwise by the counts of both builds and of the
-- tests
abbrev pub tested_said : GenerateOptions → (first : ℕ) → ReadProject → List FileStatus → Option TestEnd → GeneratedSaid
tested_said options first read statuses None = statuses_said read statuses
tested_said options first read statuses (Some end) = counted_said options first (count_by is_compiled statuses) end

-- the ends of the tests; nothing if a file isn't made
abbrev pub tests_of : GenerateOptions → ReadProject → Work → List Event → Option TestEnd
tests_of options read work events =
    if list_all is_made (statuses_of work (compile_part events)) then Some (record { runs = test_ends (setting_of options read work (compile_part events)) (test_part events) }) else None

-- outcome and text after the second build and its tests, over these records, by the events
abbrev pub built_said : GenerateOptions → (first : ℕ) → List Record → ReadProject → List Event → GeneratedSaid
built_said options first records read events =
    let work = second_work options records read.graph in
    tested_said options first read (statuses_of work (compile_part events)) (tests_of options read work events)

-- outcome and text after the first build, by the reading of the edited sources
abbrev pub second_said : GenerateOptions → (first : ℕ) → List Record → SourceReading → List Event → GeneratedSaid
second_said options first records (Stops reason) events = refusal_said reason
second_said options first records (Over limit number) events = limit_said limit number
second_said options first records (Found read) events = built_said options first records read events

-- outcome and text of the first build if a file isn't made, and otherwise of the second build and its tests
abbrev pub both_said : GenerateOptions → SourceReading → ReadProject → (first second : List Event) → GeneratedSaid
both_said options edited read first second =
    let statuses = statuses_of (first_work options read.graph) first in
    if list_all is_made statuses then second_said options (count_by is_compiled statuses) (first_records options read.graph first) edited second else statuses_said read statuses

-- outcome and text of the whole run, by the reading of the sources before and after their edit, and by the events of each part
abbrev pub generated_said : GenerateOptions → (reading edited : SourceReading) → (first second : List Event) → GeneratedSaid
generated_said options (Stops reason) edited first second = refusal_said reason
generated_said options (Over limit number) edited first second = limit_said limit number
generated_said options (Found read) edited first second = both_said options edited read first second
