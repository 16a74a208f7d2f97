-- What the program promises of any number of runs, with edits of the sources and stops between them.
use Rattle.std.specs.Prelude.{◌≡◌, ◌↔◌, ◌<◌, ◌⊎◌, ℕ, suc, true, List, [], ◌∷◌, length, slice_get, Option, Some, None, is_some, Contains}
use Rattle.std.specs.List.{list_any}
use Rattle.base.specs.declared.graph.Entry.{Entry}
use Rattle.base.specs.declared.child.Request.{Request}
use Rattle.base.specs.declared.child.Exit.{Exit}
use Rattle.base.specs.declared.child.Event.{Event}
use Rattle.base_outcomes.specs.declared.outcome.Outcome.{Outcome}
use Rattle.base_outcomes.specs.declared.outcome.Outcome.TheVariants as outcome
use Rattle.base_outcomes.specs.declared.outcome.Refusal.TheVariants as refusal
use Rattle.outside.specs.Disks.{DiskState, Moments, added_since}
use Rattle.outside.specs.Commits.{last_state}
use Rattle.run_spec.specs.ChildJournal.{Work, artefact_after, progress_of}
use Rattle.run_spec.specs.CleanBuild.{built_below, clean_build, is_free}
use Rattle.run_spec.specs.Faithful.{IsFaithfulDisk}
use Rattle.run_spec.specs.Histories.{Sources, Order, ProgramRun, IsMoment, IsLeft, work_over}
use Rattle.run_spec.specs.Statuses.{NoRefusalHalts, is_refused, refused_files, statuses_of}
use Rattle.vhdl_spec.specs.Scans.{Finding}
use Rattle.run_tests.specs.Histories.{HistoryStep, Edited, Ran, Stopped, IsHistory, disk_after, sources_after}
use Rattle.run_tests.specs.Rights.{HasRightTests, IsRight}
use Rattle.vunit_top.specs.Store.{records_in_image}
use Rattle.vunit_top.specs.Reading.{reading}
use Rattle.vunit_top.specs.Runs.{world_of}
use Rattle.vunit_top.specs.Said.{HasBuilt, HasEnded, IsSaid, order_in}

-- The file at a position differs from its record: a clean build of the graph makes all that it depends on, and no record is
-- current over what the clean build makes of these.
pub record Differs (compiler : Request → Exit) (work : Work) (position : ℕ) : Type 0 where
  pub entry : Entry
  pub is_entry : slice_get work.graph position ≡ Some entry
  pub is_free : is_free (clean_build compiler work.graph) entry ≡ true
  pub stale : work.current position (built_below (clean_build compiler work.graph) entry) ≡ None

-- what a run builds over the disk that it finds
abbrev pub work_in : (List ℕ → Finding) → Sources → ProgramRun → DiskState → Work
work_in scan sources run first = work_over records_in_image (order_in (reading scan run.words sources)) first

-- Each compiler is asked what a clean build of the sources asks it, and each test starts over the libraries that this clean build
-- gives. A run that has ended, and that no refusal halted, started exactly the files that differ from their record. If it is done,
-- or its tests failed, each file is made. If a file was refused, an answer that is neither a fault nor out of memory names exactly
-- the refused files.
pub record KeepsPromise (scan : List ℕ → Finding) (compiler : Request → Exit) (sources : Sources) (run : ProgramRun) (first : DiskState) : Type 0 where
  pub right : IsRight (world_of scan compiler) sources run first
  pub started : HasEnded run.outcome → NoRefusalHalts (work_in scan sources run first) run.events → (position : ℕ) →
      Contains (progress_of (work_in scan sources run first) run.events).taken position ↔ Differs compiler (work_in scan sources run first) position
  pub made : HasBuilt run.outcome → (position : ℕ) → position < length (work_in scan sources run first).graph → is_some (artefact_after (work_in scan sources run first) run.events position) ≡ true
  pub named : IsSaid run.outcome → list_any is_refused (statuses_of (work_in scan sources run first) run.events) ≡ true →
      run.outcome ≡ outcome.Refused (refusal.Compiler (refused_files (work_in scan sources run first).graph (statuses_of (work_in scan sources run first) run.events)))

-- Each run of a history keeps the promise, also one that is stopped, whose tests so far are right; and the disk at the end has true
-- records alone.
unfoldable pub AllKeepPromise : (List ℕ → Finding) → (compiler : Request → Exit) → Sources → DiskState → List HistoryStep → Type 0
AllKeepPromise scan compiler sources disk [] = IsFaithfulDisk compiler records_in_image disk
AllKeepPromise scan compiler sources disk (Edited new ∷ steps) = AllKeepPromise scan compiler new disk steps
AllKeepPromise scan compiler sources disk (Ran run ∷ steps) = KeepsPromise scan compiler sources run disk × AllKeepPromise scan compiler sources (last_state disk run.later) steps
AllKeepPromise scan compiler sources disk (Stopped run stop ∷ steps) =
    KeepsPromise scan compiler sources run disk × HasRightTests (world_of scan compiler) sources run stop.tests × AllKeepPromise scan compiler sources stop.disk steps

-- the sources of a project and the state of its disk at a moment
pub record ProjectState : Type 0 where
  pub sources : Sources
  pub disk : DiskState

-- how many runs are among steps
unfoldable pub runs_in : List HistoryStep → ℕ
runs_in [] = 0
runs_in (Edited new ∷ steps) = runs_in steps
runs_in (Ran run ∷ steps) = suc (runs_in steps)
runs_in (Stopped run stop ∷ steps) = suc (runs_in steps)

-- What happened from one state of a project to another, with `runs` runs: a history of runs, edits and stops. From a disk of true
-- records, such as an empty disk, each of its runs keeps the promise.
pub record RanAll (scan : List ℕ → Finding) (compiler : Request → Exit) (runs : ℕ) (old new : ProjectState) : Type 0 where
  pub steps : List HistoryStep
  pub count : runs_in steps ≡ runs
  pub history : IsHistory (world_of scan compiler) old.sources old.disk steps
  pub sources : sources_after old.sources steps ≡ new.sources
  pub disk : disk_after old.disk steps ≡ new.disk
  pub promise : IsFaithfulDisk compiler records_in_image old.disk → AllKeepPromise scan compiler old.sources old.disk steps

-- What a stop leaves of a disk after a moment of it: the unchanged disk, or what a kill or a loss of power at some moment since
-- `begun` leaves.
abbrev pub LeavesDisk : (begun old : Moments) → DiskState → Type 0
LeavesDisk begun old left = (left ≡ old.now) ⊎ ((moment : DiskState) × IsMoment moment begun.now (added_since begun old) × IsLeft moment left)
