-- What words and sources say is to be done: a function of both.
use Rattle.std.specs.Prelude.{ℕ, ◌≤◌, nat_lt, Bool, true, false, ◌||◌, if◌then◌else◌, List, [], ◌∷◌, codes, Option, Some, None, Result, Ok, Err}
use Rattle.std.specs.Str.{bytes_eq}
use Rattle.base.specs.declared.graph.Entry.{Entry}
use Rattle.base_outcomes.specs.declared.outcome.Refusal.{Refusal}
use Rattle.base_outcomes.specs.declared.outcome.Limit.{Limit}
use Rattle.base_outcomes.specs.declared.outcome.Limit.TheVariants as limit
use Rattle.base_outcomes.specs.declared.bench.Bench.{Bench}
use Rattle.base.specs.declared.child.MaybeText.{MaybeText}
use Rattle.base.specs.declared.child.MaybeText.TheVariants.{Given, Nothing}
use Rattle.base.specs.declared.limits.TheConstants.{FILE_LIMIT, SLOT_LIMIT}
use Rattle.run_spec.specs.Histories.{Sources, Order}
use Rattle.run_spec.specs.JournalParts.{is_given}
use Rattle.report.specs.Texts.{warning_text}
use Rattle.report.specs.Export.{export_text}
use Rattle.vhdl_spec.specs.Scans.{Finding}
use Rattle.vunit_arguments.specs.declared.setting.Setting.{Setting}
use Rattle.vunit_arguments.specs.Arguments.{setting_of}
use Rattle.project_reading.specs.Reading.{SourceReading, project_reading}
use Rattle.project_reading.specs.Reading as sources
pub use Rattle.project_reading.specs.Queries.{chosen}
use Rattle.project_reading.specs.declared.query.QueryKind.{QueryKind}
use Rattle.project_reading.specs.declared.query.QueryKind.TheVariants.{Graph, Tests, Needed}
use Rattle.project_reading.specs.declared.query.Query.{Query}
use Rattle.run_build.specs.declared.building.BuildOptions.{BuildOptions}
use Rattle.run_build.specs.Orders.{order_by}
use Rattle.project_reading.specs.declared.linking.ReadProject.{ReadProject}
use Rattle.testbench_runs.specs.declared.runs.TestRun.{TestRun}
use Rattle.testbench_runs.specs.Runs.{test_runs}
use Rattle.run_spec.specs.TestJournal.{TestPlan}
use Rattle.report.specs.declared.said.TestWords.{TestWords}
use Rattle.generated_runs.specs.declared.options.GenerateOptions.{GenerateOptions}
use Rattle.vunit_top.specs.declared.words.RunOptions.{RunOptions}
use Rattle.vunit_top.specs.declared.words.Task.{Task}
use Rattle.vunit_top.specs.declared.words.Task.TheVariants as task

-- which child of the program it is: its own compiler, or its own simulator
pub data Tool : Type 0 where
  Compiler : Tool
  Simulator : Tool

-- What a run is to do: the build, and the tests that follow it. The other fields say how results are shown, where a report of the
-- tests is written, if one is wanted, and the text of warnings.
pub record Testing : Type 0 where
  pub order : Order
  pub plan : TestPlan
  pub words : TestWords
  pub report : MaybeText
  pub warnings : List ℕ

-- What words and sources ask for. `Bad`: the words are not a command line. `Child`: the program is this child. `Stops`: words or
-- sources are refused. `Over`: a quantity is over its limit, which is this number. `Lists`: these files are to be listed, in
-- compile order. `ListsTests`: these tests are to be listed. `Exports`: this text is to be written to the file of this path.
-- `Builds`: this order is to be built, with this text of warnings. `Runs`: it is to be built and tested. `Generates`: a project is
-- to be generated, built and tested.
pub data Reading : Type 0 where
  Bad : Reading
  Child : Tool → Reading
  Stops : Refusal → Reading
  Over : Limit → (number : ℕ) → Reading
  Lists : List Entry → Reading
  ListsTests : List Bench → Reading
  Exports : (path : List ℕ) → (text : List ℕ) → Reading
  Builds : Order → (warnings : List ℕ) → Reading
  Runs : Testing → Reading
  Generates : GenerateOptions → Reading

-- the first of the words is this one
abbrev pub begins_with : List ℕ → List (List ℕ) → Bool
begins_with first [] = false
begins_with first (word ∷ words) = bytes_eq word first

-- the program is the compiler child: its first word is `child-analyse`
abbrev pub begins_as_compiler : List (List ℕ) → Bool
begins_as_compiler words = begins_with (codes "child-analyse") words

-- the program is the simulator child: its first word is `child-bench`
abbrev pub begins_as_simulator : List (List ℕ) → Bool
begins_as_simulator words = begins_with (codes "child-bench") words

-- the program is one of its two children
abbrev pub begins_as_child : List (List ℕ) → Bool
begins_as_child words = begins_as_compiler words || begins_as_simulator words

-- how a setting says that files are built
abbrev pub options_of : Setting → BuildOptions
options_of setting = record { slots = setting.num_threads; keep_going = setting.keep_compiling; clean = setting.clean }

-- how much is wanted: only what the tests need that are selected, or else this
abbrev pub query_kind_of : Bool → QueryKind → QueryKind
query_kind_of minimal other = if minimal then Needed else other

-- what a setting wants of the sources
abbrev pub query_by : Setting → QueryKind → Query
query_by setting query_kind = record { query_kind = query_kind; patterns = setting.patterns }

-- how a setting says that files are built and tests are run
abbrev pub run_options_of : Setting → RunOptions
run_options_of setting = record {
  build = options_of setting;
  fail_fast = setting.fail_fast;
  words = record { verbose = setting.verbose; quiet = setting.quiet; exit_0 = setting.exit_0; report = is_given setting.xunit_xml };
  report = setting.xunit_xml;
  query = query_by setting (query_kind_of setting.minimal Tests);
}

-- what is done by the first of the modes list, files and compile that is named, and else a run
abbrev pub task_but_export : Setting → Task
task_but_export setting =
    if setting.list then task.ListTests (query_by setting Tests) else if setting.files then task.ListFiles (query_by setting (query_kind_of setting.minimal Graph))
    else if setting.compile then task.Build (options_of setting) (query_by setting (query_kind_of setting.minimal Graph)) else task.Run (run_options_of setting)

-- the export of files and tests, where it has a path, and else what another mode asks for
abbrev pub task_or_export : MaybeText → Setting → Task
task_or_export (Given path) setting = task.Export path (query_by setting Tests)
task_or_export Nothing setting = task_but_export setting

-- what is done with the sources by the first of the modes export, list, files and compile that is named, and else a run
abbrev pub task_of : Setting → Task
task_of setting = task_or_export setting.export_json setting

-- how a setting says that a project is generated
abbrev pub generate_options_of : Setting → GenerateOptions
generate_options_of setting = record { packages = setting.generate; slots = setting.num_threads; exit_0 = setting.exit_0 }

-- what a job wants of the sources
abbrev pub query_of : Task → Query
query_of (task.ListFiles query) = query
query_of (task.ListTests query) = query
query_of (task.Export path query) = query
query_of (task.Build options query) = query
query_of (task.Run options) = options.query

-- whether a job may build, and so touch the disk and children
abbrev pub is_build : Task → Bool
is_build (task.Build options query) = true
is_build (task.Run options) = true
is_build _ = false

-- whether a job may write a report
abbrev pub may_write : Task → Bool
may_write (task.Export path query) = true
may_write (task.Run options) = is_given options.report
may_write _ = false

-- whether a job may start tests
abbrev pub is_run : Task → Bool
is_run (task.Run options) = true
is_run _ = false

-- whether words may start a test
abbrev pub may_test : Result Task Reading → Bool
may_test (Ok task) = is_run task
may_test (Err (Generates options)) = true
may_test (Err reading) = false

-- whether words say that a project is to be generated
abbrev pub generates : Result Task Reading → Bool
generates (Ok task) = false
generates (Err (Generates options)) = true
generates (Err reading) = false

-- a build has from 1 to 64 children at once
abbrev pub HasSlots : Task → Type 0
HasSlots (task.Build options query) = (1 ≤ options.slots) × (options.slots ≤ SLOT_LIMIT)
HasSlots (task.Run options) = (1 ≤ options.build.slots) × (options.build.slots ≤ SLOT_LIMIT)
HasSlots _ = Unit {0}

-- what a setting says that names the mode generate: the project has one file more than packages, and no more than may be
abbrev pub generate_task : Setting → Result Task Reading
generate_task setting = if nat_lt setting.generate FILE_LIMIT then Err (Generates (generate_options_of setting)) else Err (Over limit.Files FILE_LIMIT)

-- What a setting says is done with the sources, or what it says alone. The mode generate comes before all others.
abbrev pub setting_task : Setting → Result Task Reading
setting_task setting = if nat_lt SLOT_LIMIT setting.num_threads then Err (Over limit.Slots SLOT_LIMIT) else if nat_lt 0 setting.generate then generate_task setting else Ok (task_of setting)

-- the task of a setting; without a setting, the words are not a command line
abbrev pub maybe_task : Option Setting → Result Task Reading
maybe_task None = Err Bad
maybe_task (Some setting) = setting_task setting

-- what words say is done with the sources, or what they say alone
abbrev pub words_task : List (List ℕ) → Result Task Reading
words_task words = if begins_as_compiler words then Err (Child Compiler) else if begins_as_simulator words then Err (Child Simulator) else maybe_task (setting_of words)

-- what a run is to do with these runs of tests and this text of warnings
abbrev pub testing_with : RunOptions → ReadProject → List TestRun → (warnings : List ℕ) → Testing
testing_with options read runs warnings = record {
  order = order_by options.build read.graph;
  plan = record { runs = runs; simulator = read.project.simulator; fail_fast = options.fail_fast };
  words = options.words;
  report = options.report;
  warnings = warnings;
}

-- what a run is to do with the sources that were read
abbrev pub testing_of : RunOptions → ReadProject → Testing
testing_of options read = testing_with options read (test_runs read.project.files (chosen options.query.patterns read.tests)) (warning_text read.project.files read.warnings)

-- what is done with the sources that were read
abbrev pub task_reading : Task → SourceReading → Reading
task_reading task (sources.Stops reason) = Stops reason
task_reading task (sources.Over limit number) = Over limit number
task_reading (task.ListFiles query) (sources.Found read) = Lists read.graph
task_reading (task.ListTests query) (sources.Found read) = ListsTests (chosen query.patterns read.tests)
task_reading (task.Export path query) (sources.Found read) = Exports path (export_text read.graph read.project.files (chosen query.patterns read.tests))
task_reading (task.Build options query) (sources.Found read) = Builds (order_by options read.graph) (warning_text read.project.files read.warnings)
task_reading (task.Run options) (sources.Found read) = Runs (testing_of options read)

-- what is done with the sources, by what is wanted of them
abbrev pub full_reading : Result Task Reading → (Query → SourceReading) → Reading
full_reading (Ok task) sources = task_reading task (sources (query_of task))
full_reading (Err reading) sources = reading

-- the reading of words and sources, over a scanner
abbrev pub reading : (List ℕ → Finding) → List (List ℕ) → Sources → Reading
reading scan words sources = full_reading (words_task words) (project_reading scan sources.file sources.listed)
