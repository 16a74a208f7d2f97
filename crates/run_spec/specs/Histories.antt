-- What a run of the program does, as plain data: to the disk of its project, and to compilers; and what a stop inside it leaves.
use Rattle.std.specs.Prelude.{◌≡◌, ◌⊎◌, ℕ, Bool, false, if◌then◌else◌, List, [], ◌∷◌, ◌++◌, length, Option, Some, None}
use Rattle.std.specs.List.{AllByRecursion}
use Rattle.base.specs.declared.file.FileName.{FileName}
use Rattle.base.specs.declared.graph.Entry.{Entry}
use Rattle.base.specs.declared.child.Request.{Request}
use Rattle.base.specs.declared.child.Exit.{Exit}
use Rattle.base.specs.declared.child.Event.{Event}
use Rattle.base_outcomes.specs.declared.outcome.Outcome.{Outcome}
use Rattle.base_outcomes.specs.declared.outcome.Outcome.TheVariants.{NoMemory}
use Rattle.base.specs.Graphs.{IsGraph}
use Rattle.outside.specs.Records.{Record}
use Rattle.outside.specs.Disks.{DiskState, Image, IsImage, IsWithin, reads_of}
use Rattle.outside.specs.Records.{latest}
use Rattle.outside.specs.Phases.{HasPhases}
use Rattle.run_spec.specs.ChildJournal.{Work, Lawful, Answered}
use Rattle.run_spec.specs.Commits.{work_of, commits, Waits}
use Rattle.run_spec.specs.TestJournal.{TestPlan}

-- the files of a project folder, each path with its bytes, and the paths that the folder lists
pub record Sources : Type 0 where
  pub file : List ℕ → Option (List ℕ)
  pub listed : List (List ℕ)

-- what a run has to build: a graph, the number of children at once, whether to go on after a refusal, and whether to ignore the
-- records on the disk
pub record Order : Type 0 where
  pub graph : List Entry
  pub slots : ℕ
  pub keep_going : Bool
  pub clean : Bool

-- What stays the same in a history. The compiler is a function of its requests, and an image determines its records. Arguments
-- and sources determine the order and the plan of tests, if any. Nothing is assumed of simulators.
pub record World : Type 0 where
  pub compiler : Request → Exit
  pub records_of : Image → List Record
  pub reading : List (List ℕ) → Sources → Option Order
  pub plan : List (List ℕ) → Sources → Option TestPlan

-- A run: its arguments, its answer, and whether its disk failed. Then the events of its compilers, and the events of its tests,
-- which come after them. Last the moments of its disk after the one at which it began.
pub record ProgramRun : Type 0 where
  pub words : List (List ℕ)
  pub outcome : Outcome
  pub disk_failed : Bool
  pub events : List Event
  pub tests : List Event
  pub later : List DiskState

-- the image of an empty disk: neither side has a byte
abbrev pub empty_image : Image
empty_image = record { a = []; b = [] }

-- what reads give is an image
abbrev pub IsReadable : DiskState → Type 0
IsReadable disk = IsImage disk (reads_of disk)

-- A stop at a moment leaves a disk: each of its images is one of the moment. After a loss of power it has one image alone;
-- after a kill of the program it is the moment itself.
pub record IsLeft (moment disk : DiskState) : Type 0 where
  pub within : IsWithin moment disk
  pub readable : IsReadable disk

-- a moment of a run, with those before it and after it
pub record IsMoment (moment first : DiskState) (later : List DiskState) : Type 0 where
  pub before : List DiskState
  pub after : List DiskState
  pub parts : first ∷ later ≡ before ++ moment ∷ after

-- the latest record of each name that a build goes by, as reads of the disk give it; none where all is built anew
abbrev pub latest_over : (Image → List Record) → (clean : Bool) → DiskState → FileName → Option Record
latest_over records_of clean disk name = if clean then None else latest name (records_of (reads_of disk))

-- what a build of an order works on, over the disk that it finds
abbrev pub work_over : (Image → List Record) → Order → DiskState → Work
work_over records_of order disk = work_of (latest_over records_of order.clean disk) order.graph order.slots order.keep_going

-- A run that builds a graph. Its events are lawful and hold the compiler's answers. Each later moment of its disk can be read
-- as an image. The moments go through the phases of a store to which the run's commits are added. Each start comes where all
-- commits before it are acknowledged. If neither the disk nor memory failed, all commits are acknowledged.
pub record IsBuildRun (world : World) (order : Order) (run : ProgramRun) (first : DiskState) : Type 0 where
  pub graph : IsGraph order.graph
  pub lawful : Lawful (work_over world.records_of order first) run.events
  pub answered : Answered world.compiler run.events
  pub readable : AllByRecursion IsReadable run.later
  pub acknowledged : ℕ
  pub phases : HasPhases world.records_of order.clean acknowledged (commits (work_over world.records_of order first) run.events) first run.later
  pub waits : Waits (work_over world.records_of order first) acknowledged run.events
  pub all : run.disk_failed ≡ false → (run.outcome ≡ NoMemory → ⊥) → acknowledged ≡ length (commits (work_over world.records_of order first) run.events)

-- a run that starts no compiler and doesn't change the disk
pub record IsIdleRun (run : ProgramRun) : Type 0 where
  pub events : run.events ≡ []
  pub later : run.later ≡ []

-- What a run does over the disk that it finds, where words and sources give an order, and where they give none. A run
-- with an order may end before it builds, by a fault or out of memory.
abbrev pub RunStep : World → Option Order → ProgramRun → DiskState → Type 0
RunStep world None run first = IsIdleRun run
RunStep world (Some order) run first = IsIdleRun run ⊎ IsBuildRun world order run first
