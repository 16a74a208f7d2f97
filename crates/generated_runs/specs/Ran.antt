-- What the two builds of the generated project did, and the tests after the second.
use Rattle.std.specs.Prelude.{◌≡◌, ◌↔◌, ℕ, true, false, List, [], ◌∷◌, ◌++◌, Some, Result, IfOk, OnOk, Contains}
use Rattle.std.specs.List.{list_all, list_any}
use Rattle.base.specs.declared.child.Request.{Request}
use Rattle.base.specs.declared.child.Exit.{Exit}
use Rattle.base.specs.declared.child.Event.{Event}
use Rattle.base.specs.declared.child.Event.TheVariants.{Started}
use Rattle.base.specs.Graphs.{IsGraph}
use Rattle.outside.specs.Records.{Record}
use Rattle.outside.specs.Disks.{DiskState, reads_of}
use Rattle.run_spec.specs.declared.statuses.FileStatus.{FileStatus}
use Rattle.run_spec.specs.ChildJournal.{Work, Lawful, Answered, IsWhole, progress_of, next_position}
use Rattle.run_spec.specs.CleanBuild.{clean_request}
use Rattle.run_spec.specs.Settled.{request_unless}
use Rattle.run_spec.specs.Commits.{commits}
use Rattle.run_spec.specs.JournalParts.{compile_part, test_part}
use Rattle.run_spec.specs.Statuses.{is_refused, statuses_of, steady_statuses}
use Rattle.run_spec.specs.declared.fault.RunFault.{RunFault}
use Rattle.run_build.specs.Ran.{is_made}
use Rattle.run_spec.specs.TestJournal.{TestSetting, LawfulTests, IsWholeTests}
use Rattle.run_tests.specs.declared.build_and_test.Tested.{Tested}
use Rattle.run_tests.specs.Rights.{AreRightTests}
use Rattle.store.specs.Stored.{requests_in}
use Rattle.project_reading.specs.Reading.{SourceReading, Found}
use Rattle.project_reading.specs.declared.linking.ReadProject.{ReadProject}
use Rattle.generated_runs.specs.declared.options.GenerateOptions.{GenerateOptions}
use Rattle.generated_runs.specs.declared.options.GeneratedSaid.{GeneratedSaid}
use Rattle.generated_runs.specs.Sources.{first_work, first_records, second_work, second_order, plan_of, setting_of}
use Rattle.generated_runs.specs.Said.{tests_of, second_said, generated_said}

-- the records that reads of a disk give
abbrev pub records_on : DiskState → List Record
records_on disk = requests_in (reads_of disk)

-- What a build did. Its workload is a graph if it had any event, its events are lawful, and each end is the answer to its start.
-- Without a fault its workload is a graph, and the build ran to its end.
pub record RanBuild (answer : Request → Exit) (work : Work) (whole : Type 0 → Type 0) (events : List Event) : Type 0 where
  pub graph : (events ≡ [] → ⊥) → IsGraph work.graph
  pub whole_graph : whole (IsGraph work.graph)
  pub lawful : Lawful work events
  pub answered : Answered answer events
  pub ended : whole (IsWhole work events)

-- What holds of a build if its records are what a clean build makes. Each compiler is started with the request of a clean build for
-- its file. Without a fault, and if no file is refused, the started files are exactly the files for which the settled build has a
-- request. The statuses are then the statuses of the settled build.
pub record IsRightBuild (answer : Request → Exit) (work : Work) (whole : Type 0 → Type 0) (events : List Event) : Type 0 where
  pub asked : (before rest : List Event) (ticket : ℕ) (request : Request) → events ≡ before ++ Started ticket request ∷ rest →
      (position : ℕ) × (next_position work (progress_of work before) ≡ Some position) × (clean_request answer work.graph position ≡ Some request)
  pub started : whole (list_any is_refused (statuses_of work events) ≡ false → (position : ℕ) → Contains (progress_of work events).taken position ↔ ((request : Request) × (request_unless answer work.graph work.current position ≡ Some request)))
  pub steady : whole (list_any is_refused (statuses_of work events) ≡ false → statuses_of work events ≡ steady_statuses answer work.graph work.current)

-- What holds of a build and its tests if its records are what a clean build makes: the build is right, and each test is started
-- over exactly the libraries of a clean build.
pub record IsRightSecond (answer : Request → Exit) (options : GenerateOptions) (work : Work) (read : ReadProject) (whole : Type 0 → Type 0) (events : List Event) : Type 0 where
  pub build : IsRightBuild answer work whole (compile_part events)
  pub tests : AreRightTests answer (second_order options read.graph) (plan_of read) (test_part events)

-- What the first build did over a disk. Without a fault the answered statuses follow from the events, and reads of the disk then
-- give the records of the build's ends.
pub record RanFirst (answer : Request → Exit) (work : Work) (result : Result (List FileStatus) RunFault) (disk : DiskState) (events : List Event) : Type 0 where
  pub built : RanBuild answer work (OnOk result) events
  pub compilers : (compile_part events ≡ events) × (test_part events ≡ [])
  pub statuses : IfOk result (λ statuses. statuses ≡ statuses_of work events)
  pub records : OnOk result (records_on disk ≡ commits work events)

-- What a build and its tests did. The events of the compilers come first, and then the events of the tests. The tests are lawful
-- runs of the plan over exactly what was built, and no test is started unless all files are made. Without a fault, and if all files
-- are made, all tests ran to their ends.
pub record RanSecond (answer : Request → Exit) (work : Work) (setting : List Event → TestSetting) (whole : Type 0 → Type 0) (events : List Event) : Type 0 where
  pub parted : events ≡ compile_part events ++ test_part events
  pub graph : (test_part events ≡ [] → ⊥) → IsGraph work.graph
  pub built : RanBuild answer work whole (compile_part events)
  pub made : (test_part events ≡ [] → ⊥) → list_all is_made (statuses_of work (compile_part events)) ≡ true
  pub tested : LawfulTests (setting (compile_part events)) (test_part events)
  pub replied : Answered answer (test_part events)
  pub all_tested : whole (list_all is_made (statuses_of work (compile_part events)) ≡ true → IsWholeTests (setting (compile_part events)) (test_part events))

-- What a build and its tests did, as in `RanSecond`. Without a fault, the answered statuses and test ends follow from the events.
pub record RanTested (answer : Request → Exit) (work : Work) (options : GenerateOptions) (read : ReadProject) (result : Result Tested RunFault) (events : List Event) : Type 0 where
  pub ran : RanSecond answer work (setting_of options read work) (OnOk result) events
  pub statuses : IfOk result (λ tested. tested.statuses ≡ statuses_of work (compile_part events))
  pub tests : IfOk result (λ tested. tested.tests ≡ tests_of options read work events)

-- What a run did from the edited sources on, over these records, after a first build that compiled `first` files.
pub record RanEdited (answer : Request → Exit) (options : GenerateOptions) (edited : SourceReading) (records : List Record) (first : ℕ) (result : Result GeneratedSaid RunFault) (events : List Event) : Type 0 where
  pub ran : (read : ReadProject) → edited ≡ Found read → RanSecond answer (second_work options records read.graph) (setting_of options read (second_work options records read.graph)) (OnOk result) events
  pub unread : ((read : ReadProject) → edited ≡ Found read → ⊥) → events ≡ []
  pub says : IfOk result (λ said. said ≡ second_said options first records edited events)

-- What a run did with the generated project, by the reading of its sources before and after their edit. The first part is a build
-- over no record. The second part comes only if all files of the first build are made, and the edited sources give a graph. It is a
-- build with its tests, over the records of the first build's ends. Both builds are right. Without a fault, outcome and text follow
-- from both parts.
pub record RanGenerated (answer : Request → Exit) (options : GenerateOptions) (reading edited : SourceReading) (result : Result GeneratedSaid RunFault) (events : List Event) : Type 0 where
  pub first : List Event
  pub second : List Event
  pub parted : events ≡ first ++ second
  pub unread : ((read : ReadProject) → reading ≡ Found read → ⊥) → (first ≡ []) × (second ≡ [])
  pub built : (read : ReadProject) → reading ≡ Found read → RanBuild answer (first_work options read.graph) (OnOk result) first
  pub compilers : (compile_part first ≡ first) × (test_part first ≡ [])
  pub unread_again : ((again : ReadProject) → edited ≡ Found again → ⊥) → second ≡ []
  pub halted : (read : ReadProject) → reading ≡ Found read → list_all is_made (statuses_of (first_work options read.graph) first) ≡ false → second ≡ []
  pub ran : (read again : ReadProject) → reading ≡ Found read → edited ≡ Found again → list_all is_made (statuses_of (first_work options read.graph) first) ≡ true →
      let work = second_work options (first_records options read.graph first) again.graph in
      RanSecond answer work (setting_of options again work) (OnOk result) second
  pub right : (read : ReadProject) → reading ≡ Found read → IsRightBuild answer (first_work options read.graph) (OnOk result) first
  pub right_again : (read again : ReadProject) → reading ≡ Found read → edited ≡ Found again → list_all is_made (statuses_of (first_work options read.graph) first) ≡ true →
      IsRightSecond answer options (second_work options (first_records options read.graph first) again.graph) again (OnOk result) second
  pub says : IfOk result (λ said. said ≡ generated_said options reading edited first second)
