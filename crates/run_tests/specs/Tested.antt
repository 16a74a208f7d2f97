-- What a build over the records of a disk did, and the runs of tests over what was built.
use Rattle.std.specs.Prelude.{◌≡◌, Bool, true, false, List, [], ◌++◌, Option, Some, None, Result, Ok, Err, IfOk}
use Rattle.std.specs.List.{list_all}
use Rattle.base.specs.declared.child.Request.{Request}
use Rattle.base.specs.declared.child.Exit.{Exit}
use Rattle.base.specs.declared.child.Event.{Event}
use Rattle.outside.specs.Records.{Record}
use Rattle.outside.specs.Disks.{Image, Moments}
use Rattle.run_spec.specs.declared.statuses.FileStatus.{FileStatus}
use Rattle.run_spec.specs.ChildJournal.{Work, EachAfter, HasFreshTicket, Answered}
use Rattle.run_spec.specs.JournalParts.{compile_part, test_part}
use Rattle.run_spec.specs.Statuses.{statuses_of}
use Rattle.run_spec.specs.Histories.{Order, work_over}
use Rattle.run_spec.specs.declared.fault.RunFault.{RunFault}
use Rattle.run_build.specs.Ran.{built_by, is_made}
use Rattle.run_build.specs.Building.{BuildsOver}
use Rattle.testbench_runs.specs.declared.ends.TestEnd.{TestEnd}
use Rattle.run_spec.specs.TestJournal.{TestPlan, TestSetting, LawfulTests, IsWholeTests}
use Rattle.run_tests.specs.Results.{test_ends}
use Rattle.run_tests.specs.declared.build_and_test.Tested.{Tested}

-- The reported end of tests: none if a file isn't made. Otherwise the events of tests are whole, and each run is reported
-- with its end by these events.
abbrev pub SaysTests : TestSetting → (made : Bool) → Option TestEnd → List Event → Type 0
SaysTests setting made None events = made ≡ false
SaysTests setting made (Some end) events = (made ≡ true) × IsWholeTests setting events × (end.runs ≡ test_ends setting events)

-- What runs of tests did after a build with these statuses. None is started where a file isn't made.
pub record RanBuilt (tells : Type 0) (answer : Request → Exit) (setting : TestSetting) (statuses : List FileStatus) (result : Result Tested RunFault) (old new : List Event) : Type 0 where
  pub events : List Event
  pub journal : tells → new ≡ old ++ events
  pub made : (events ≡ [] → ⊥) → list_all is_made statuses ≡ true
  pub fresh : tells → EachAfter HasFreshTicket old events
  pub lawful : tells → LawfulTests setting events
  pub answered : tells → Answered answer events
  pub gives : tells → IfOk result (λ tested. (tested.statuses ≡ statuses) × SaysTests setting (list_all is_made statuses) tested.tests events)

-- what runs of tests after a build work on: their plan, and the files that were built
abbrev pub setting_after : Order → TestPlan → Work → List Event → TestSetting
setting_after order plan work compiled = record { plan = plan; built = built_by work compiled; slots = order.slots }

-- A build, and then its tests. First come the events of compilers, which are the events of a build of the order, and then
-- the events of tests. The tests are lawful runs of the plan over exactly the files that were built, on every answer.
-- Each end is the answer to its start. No test is started if a file isn't made, nor after a fault of the build, which is
-- the answer then. If the answer isn't a fault, it has the statuses of the build. It also has the ends of all runs if
-- each file is made.
pub record TestsOver (records_of : Image → List Record) (answer : Request → Exit) (order : Order) (plan : TestPlan) (result : Result Tested RunFault) (disk_failed : Bool) (old new : Moments) (events : List Event) : Type 0 where
  pub compiled : List Event
  pub tests : List Event
  pub parted : events ≡ compiled ++ tests
  pub compilers : compile_part events ≡ compiled
  pub simulators : test_part events ≡ tests
  pub build : Result (List FileStatus) RunFault
  pub builds : BuildsOver records_of answer order build disk_failed old new compiled
  pub made : (tests ≡ [] → ⊥) → list_all is_made (statuses_of (work_over records_of order old.now) compiled) ≡ true
  pub lawful : LawfulTests (setting_after order plan (work_over records_of order old.now) compiled) tests
  pub answered : Answered answer tests
  pub gives : IfOk result (λ tested. (build ≡ Ok tested.statuses)
      × SaysTests (setting_after order plan (work_over records_of order old.now) compiled) (list_all is_made tested.statuses) tested.tests tests)
  pub stops : (fault : RunFault) → build ≡ Err fault → (result ≡ Err fault) × (tests ≡ [])
