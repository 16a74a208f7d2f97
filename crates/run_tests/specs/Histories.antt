-- Histories of a project's disk: runs of the program with their tests, edits of the sources, and stops inside runs, as plain data.
use Rattle.std.specs.Prelude.{◌≡◌, true, List, [], ◌∷◌, ◌++◌, Option, Some, None}
use Rattle.std.specs.List.{list_all}
use Rattle.base.specs.declared.child.Event.{Event}
use Rattle.base.specs.Graphs.{IsGraph}
use Rattle.outside.specs.Records.{Record}
use Rattle.outside.specs.Disks.{DiskState, Image}
use Rattle.outside.specs.Commits.{last_state}
use Rattle.run_spec.specs.ChildJournal.{Work}
use Rattle.run_spec.specs.Statuses.{statuses_of}
use Rattle.run_spec.specs.Histories.{Sources, Order, World, ProgramRun, IsMoment, IsLeft, RunStep, work_over}
use Rattle.run_build.specs.Ran.{is_made}
use Rattle.run_spec.specs.TestJournal.{TestPlan, LawfulTests}
use Rattle.run_tests.specs.Tested.{setting_after}

-- a stop of a run: the events of its compilers and of its tests so far, the moment of the disk that it came at, and the disk
-- that the next run finds
pub record Stop : Type 0 where
  pub events : List Event
  pub tests : List Event
  pub moment : DiskState
  pub disk : DiskState

-- the sources are edited; the program runs; or it runs and is stopped
pub data HistoryStep : Type 0 where
  Edited : Sources → HistoryStep
  Ran : ProgramRun → HistoryStep
  Stopped : ProgramRun → Stop → HistoryStep

-- The tests of a program run, after a build with this work and these events, for a plan of tests. There are tests only if
-- the order's files are a graph and each file is made. They are lawful runs over exactly the files that were built. Any
-- answers of simulators are allowed.
pub record HasTested (order : Order) (plan : TestPlan) (work : Work) (compiled tests : List Event) : Type 0 where
  pub graph : (tests ≡ [] → ⊥) → IsGraph order.graph
  pub made : (tests ≡ [] → ⊥) → list_all is_made (statuses_of work compiled) ≡ true
  pub lawful : LawfulTests (setting_after order plan work compiled) tests

-- What the tests of a run did over the disk that its build found. If words and sources give no order or no plan, no test
-- runs.
abbrev pub TestsStep : (records_of : Image → List Record) → Option Order → Option TestPlan → (compiled tests : List Event) → DiskState → Type 0
TestsStep records_of None plan compiled tests first = tests ≡ []
TestsStep records_of (Some order) None compiled tests first = tests ≡ []
TestsStep records_of (Some order) (Some plan) compiled tests first = HasTested order plan (work_over records_of order first) compiled tests

-- what a run did with compilers and with tests, by what its words and the sources give
abbrev pub IsRun : World → Sources → ProgramRun → DiskState → Type 0
IsRun world sources run first =
    RunStep world (world.reading run.words sources) run first
    × TestsStep world.records_of (world.reading run.words sources) (world.plan run.words sources) run.events run.tests first

-- A stop comes at a moment of a run, and leaves a prefix of its events: no test where some event of a compiler is missing.
pub record IsStop (first : DiskState) (run : ProgramRun) (stop : Stop) : Type 0 where
  pub rest : List Event
  pub prefix : run.events ≡ stop.events ++ rest
  pub more : List Event
  pub tested : run.tests ≡ stop.tests ++ more
  pub parted : (stop.tests ≡ [] → ⊥) → stop.events ≡ run.events
  pub moment : IsMoment stop.moment first run.later
  pub left : IsLeft stop.moment stop.disk

-- steps from these sources and this disk on
unfoldable pub IsHistory : World → Sources → DiskState → List HistoryStep → Type 0
IsHistory world sources disk [] = Unit {0}
IsHistory world sources disk (Edited new ∷ steps) = IsHistory world new disk steps
IsHistory world sources disk (Ran run ∷ steps) = IsRun world sources run disk × IsHistory world sources (last_state disk run.later) steps
IsHistory world sources disk (Stopped run stop ∷ steps) = IsRun world sources run disk × IsStop disk run stop × IsHistory world sources stop.disk steps

-- the sources after steps
unfoldable pub sources_after : Sources → List HistoryStep → Sources
sources_after sources [] = sources
sources_after sources (Edited new ∷ steps) = sources_after new steps
sources_after sources (Ran run ∷ steps) = sources_after sources steps
sources_after sources (Stopped run stop ∷ steps) = sources_after sources steps

-- the disk after steps
unfoldable pub disk_after : DiskState → List HistoryStep → DiskState
disk_after disk [] = disk
disk_after disk (Edited new ∷ steps) = disk_after disk steps
disk_after disk (Ran run ∷ steps) = disk_after (last_state disk run.later) steps
disk_after disk (Stopped run stop ∷ steps) = disk_after stop.disk steps
