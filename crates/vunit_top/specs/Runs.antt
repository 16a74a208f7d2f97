-- What a run of the program did: a step of a history, and what follows of it.
use Rattle.std.specs.Prelude.{◌≡◌, ◌↔◌, ℕ, ◌<◌, Bool, true, false, List, [], length, Option, Some, None, is_some, Contains}
use Rattle.base.specs.declared.child.Request.{Request}
use Rattle.base.specs.declared.child.Exit.{Exit}
use Rattle.base.specs.declared.child.Event.{Event}
use Rattle.base_outcomes.specs.declared.outcome.Outcome.{Outcome}
use Rattle.base.specs.Graphs.{IsGraph}
use Rattle.outside.specs.Disks.{DiskState, EachImage, Follows, Moments, Shrinks, reads_of, settled_disk}
use Rattle.outside.specs.Commits.{last_state}
use Rattle.run_spec.specs.ChildJournal.{Work, IsWhole, progress_of, artefact_after}
use Rattle.run_spec.specs.Settled.{request_unless}
use Rattle.run_spec.specs.Commits.{commits}
use Rattle.run_spec.specs.Faithful.{IsFaithfulDisk}
use Rattle.run_spec.specs.Histories.{Order, World, ProgramRun, RunStep, work_over}
use Rattle.run_spec.specs.JournalParts.{IsCompilerOf, compile_part, test_part}
use Rattle.run_spec.specs.Statuses.{statuses_of, steady_statuses, NoRefusalHalts}
use Rattle.run_laws.specs.Rights.{IsRightStep}
use Rattle.vhdl_spec.specs.Scans.{Finding}
use Rattle.vunit_top.specs.Store.{IsRestingDisk, records_in_image}
use Rattle.run_build.specs.Orders.{IsDurablyRecorded}
use Rattle.vunit_top.specs.Reading.{Reading, reading}
use Rattle.vunit_top.specs.Said.{HasEnded, HasBuilt, order_of, order_in, plan_in}

-- what runs of the program have in common, over one compiler
abbrev pub world_of : (List ℕ → Finding) → (compiler : Request → Exit) → World
world_of scan compiler = record { compiler = compiler; records_of = records_in_image; reading = λ words sources. order_of (reading scan words sources); plan = λ words sources. plan_in (reading scan words sources) }

-- a run with these words and this answer, in which these events and these moments of the disk were added
abbrev pub run_of : List (List ℕ) → Outcome → Bool → List Event → List DiskState → ProgramRun
run_of words result disk_failed events later = record { words = words; outcome = result; disk_failed = disk_failed; events = compile_part events; tests = test_part events; later = later }

-- The started files are exactly the files for which the settled build has a request. Such a file has no current record over what
-- the settled build makes of its dependencies, and the settled build doesn't block it. The statuses are the statuses of the settled
-- build.
pub record IsExact (compiler : Request → Exit) (setting : Work) (events : List Event) : Type 0 where
  pub started : (position : ℕ) → Contains (progress_of setting events).taken position ↔ ((request : Request) × (request_unless compiler setting.graph setting.current position ≡ Some request))
  pub steady : statuses_of setting events ≡ steady_statuses compiler setting.graph setting.current

-- Nothing was written to a disk from its first moment through later ones: no image was added at any moment; and a run that
-- has ended left what reads gave before it, synced.
pub record WritesNothing (ended : Type 0) (first : DiskState) (later : List DiskState) (last : DiskState) : Type 0 where
  pub fewer : Shrinks first later
  pub same : ended → last ≡ settled_disk (reads_of first)

-- A run writes nothing if it builds over the records of a disk that opening leaves unchanged, and commits no record.
abbrev pub RestsFrom : Option Order → ProgramRun → (first last : DiskState) → Type 0
RestsFrom None run first last = Unit {0}
RestsFrom (Some order) run first last = order.clean ≡ false → IsRestingDisk first → commits (work_over records_in_image order first) run.events ≡ [] → WritesNothing (HasEnded run.outcome) first run.later last

-- What a run did, over the disk before it and after it. It is a step of a history, which goes on from the disk after it. If the run
-- has ended, its order is a graph, and its build ran to its end. Each file that is made then has a record of its present view in
-- whatever a stop can leave. If the store is to be emptied, the disk then has the records of this build alone. If the run has ended
-- and no refusal halted it, it is exact. If it is done, or its tests failed, each file is made. If no write is due, it writes
-- nothing. From a disk of true records the run is right: at each of its moments a stop can leave only true records, and each
-- compiler is started with the request of a clean build.
pub record RunsAs (scan : List ℕ → Finding) (compiler : Request → Exit) (r : Reading) (run : ProgramRun) (first last : DiskState) : Type 0 where
  pub step : RunStep (world_of scan compiler) (order_of r) run first
  pub ends : last_state first run.later ≡ last
  pub graph : HasEnded run.outcome → IsGraph (order_in r).graph
  pub whole : HasEnded run.outcome → IsWhole (work_over records_in_image (order_in r) first) run.events
  pub recorded : HasEnded run.outcome → (position : ℕ) → position < length (order_in r).graph → is_some (artefact_after (work_over records_in_image (order_in r) first) run.events position) ≡ true → IsDurablyRecorded records_in_image last (order_in r).graph position
  pub emptied : HasEnded run.outcome → (order_in r).clean ≡ true → EachImage (λ image. records_in_image image ≡ commits (work_over records_in_image (order_in r) first) run.events) last
  pub rests : RestsFrom (order_of r) run first last
  pub right : IsFaithfulDisk compiler records_in_image first → IsRightStep (world_of scan compiler) (order_of r) run first
  pub exact : HasEnded run.outcome → NoRefusalHalts (work_over records_in_image (order_in r) first) run.events → IsExact compiler (work_over records_in_image (order_in r) first) run.events
  pub made : HasBuilt run.outcome → (position : ℕ) → position < length (order_in r).graph → is_some (artefact_after (work_over records_in_image (order_in r) first) run.events position) ≡ true

-- What a run did between two times that its disk is looked at: the moments before it stay, and it is a run of each compiler that
-- the children have.
pub record RunsBy (scan : List ℕ → Finding) (answer : Request → Exit) (r : Reading) (run : ProgramRun) (old new : Moments) : Type 0 where
  pub follows : Follows old new
  pub by : (compiler : Request → Exit) → IsCompilerOf compiler answer → RunsAs scan compiler r run old.now new.now
