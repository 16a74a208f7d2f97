-- What the sources of the generated project say is to be done, and what is built of them.
use Rattle.std.specs.Prelude.{ℕ, false, List, [], ◌∷◌, codes, Option, None}
use Rattle.base.specs.declared.file.FileName.{FileName}
use Rattle.base.specs.declared.file.NamedText.{NamedText}
use Rattle.base.specs.declared.graph.Entry.{Entry}
use Rattle.base.specs.declared.child.Event.{Event}
use Rattle.outside.specs.Records.{Record}
use Rattle.outside.specs.Records.{latest}
use Rattle.memory_outside.specs.Trees.{file_at, listed_of}
use Rattle.run_spec.specs.ChildJournal.{Work}
use Rattle.run_spec.specs.Commits.{work_of, commits}
use Rattle.testbench_runs.specs.declared.runs.TestRun.{TestRun}
use Rattle.testbench_runs.specs.Runs.{test_runs}
use Rattle.run_spec.specs.TestJournal.{TestPlan, TestSetting}
use Rattle.run_build.specs.Ran.{built_by}
use Rattle.run_build.specs.Orders.{order_by}
use Rattle.run_spec.specs.Histories.{Order}
use Rattle.vhdl_spec.specs.Scans.{Finding}
use Rattle.project_reading.specs.Reading.{SourceReading, project_reading}
use Rattle.project_reading.specs.Queries.{chosen}
use Rattle.project_reading.specs.declared.linking.ReadProject.{ReadProject}
use Rattle.project_reading.specs.declared.query.Query.{Query}
use Rattle.project_reading.specs.declared.query.QueryKind.{QueryKind}
use Rattle.project_reading.specs.declared.query.QueryKind.TheVariants.{Graph, Tests}
use Rattle.generated_project.specs.Files.{generated_files, edited_package, unedited}
use Rattle.generated_runs.specs.declared.options.GenerateOptions.{GenerateOptions}

-- the pattern that each full name matches
unfoldable pub any_name : List ℕ
any_name = codes "*"

-- a query of this kind for all tests
abbrev pub query_for : QueryKind → Query
query_for query_kind = record { query_kind = query_kind; patterns = any_name ∷ [] }

-- the reading of a tree of these files
abbrev pub files_reading : (List ℕ → Finding) → List NamedText → Query → SourceReading
files_reading scan files query = project_reading scan (file_at files) (listed_of files) query

-- the reading of the generated project before its edit: its files alone
abbrev pub first_reading : (List ℕ → Finding) → GenerateOptions → SourceReading
first_reading scan options = files_reading scan (generated_files options.packages unedited) (query_for Graph)

-- the reading of the generated project after its edit, with its tests
abbrev pub second_reading : (List ℕ → Finding) → GenerateOptions → SourceReading
second_reading scan options = files_reading scan (generated_files options.packages (edited_package options.packages)) (query_for Tests)

-- no file has a record, so the first build compiles all
abbrev pub no_record : FileName → Option Record
no_record name = None

-- what is built first: all files, over no record, not going on after a refusal
abbrev pub first_work : GenerateOptions → List Entry → Work
first_work options graph = work_of no_record graph options.slots false

-- the records that the first build leaves
abbrev pub first_records : GenerateOptions → List Entry → List Event → List Record
first_records options graph events = commits (first_work options graph) events

-- what the second build works on: the latest record of each name among those of the first build, not going on after a refusal
abbrev pub second_work : GenerateOptions → List Record → List Entry → Work
second_work options records graph = work_of (λ name. latest name records) graph options.slots false

-- the order of the second build: over the records that are there, not going on after a refusal
abbrev pub second_order : GenerateOptions → List Entry → Order
second_order options graph = order_by (record { slots = options.slots; keep_going = false; clean = false }) graph

-- the runs of all tests of a project
abbrev pub runs_in : ReadProject → List TestRun
runs_in read = test_runs read.project.files (chosen (any_name ∷ []) read.tests)

-- the plan of all tests of a project, going on after a failed one
abbrev pub plan_of : ReadProject → TestPlan
plan_of read = record { runs = runs_in read; simulator = read.project.simulator; fail_fast = false }

-- what the tests work on after a build with these events
abbrev pub setting_of : GenerateOptions → ReadProject → Work → List Event → TestSetting
setting_of options read work compiled = record { plan = plan_of read; built = built_by work compiled; slots = options.slots }
