-- What two runs did, one after the other.
use Rattle.std.specs.Prelude.{◌≡◌, ◌↔◌, ℕ, Bool, List, [], ◌∷◌, ◌++◌, false, Some, None, Contains}
use Rattle.base.specs.declared.file.FileName.{FileName}
use Rattle.base.specs.declared.child.Request.{Request}
use Rattle.base.specs.declared.child.Exit.{Exit}
use Rattle.base.specs.declared.child.Event.{Event}
use Rattle.base_outcomes.specs.declared.outcome.Outcome.{Outcome}
use Rattle.outside.specs.Records.{Record}
use Rattle.outside.specs.Disks.{DiskState}
use Rattle.outside.specs.Commits.{last_state}
use Rattle.run_spec.specs.ChildJournal.{progress_of}
use Rattle.run_spec.specs.Faithful.{IsFaithfulDisk}
use Rattle.run_spec.specs.Histories.{Sources, ProgramRun, work_over}
use Rattle.run_spec.specs.Settled.{request_unless}
use Rattle.run_spec.specs.JournalParts.{compile_part, test_part}
use Rattle.run_laws.specs.Spares.{IsAcknowledged, SparesFile}
use Rattle.vhdl_spec.specs.Scans.{Finding}
use Rattle.run_tests.specs.Histories.{Ran, Stopped, IsHistory}
use Rattle.vunit_top.specs.Store.{records_in_image}
use Rattle.vunit_top.specs.Reading.{reading}
use Rattle.vunit_top.specs.Runs.{world_of, run_of}
use Rattle.vunit_top.specs.Said.{HasBuilt, order_of, order_in, plan_in}
use Rattle.headline.specs.declared.chains.Outcomes.{Outcomes}

-- what a run did apart from its words and its answer: whether its disk failed, what the journal has more, and the moments
-- of its disk after the first
pub record Deeds : Type 0 where
  pub disk_failed : Bool
  pub events : List Event
  pub later : List DiskState

-- the run of the program with these words and this answer that did this
abbrev pub run_by : List (List ℕ) → Outcome → Deeds → ProgramRun
run_by words result deeds = run_of words result deeds.disk_failed deeds.events deeds.later

-- what objects tell between two runs: the state of a disk, and the events of the journal
pub record ChainState : Type 0 where
  pub disk : DiskState
  pub journal : List Event

-- the disk of a run that is stopped: whether a call of it failed, its state before the run, the moments after that, and
-- the one at which the stop comes
pub record StoppedDisk : Type 0 where
  pub failed : Bool
  pub first : DiskState
  pub later : List DiskState
  pub moment : DiskState

-- Two runs over one disk are a history with their tests, which ends at the last moment of the disk; the journal has what
-- both did. After a first one that is done, or whose tests failed, the second starts no compiler,
-- unless it is to build all anew; and nothing at all, where no tests are to be run.
pub record RanTwice (scan : List ℕ → Finding) (compiler : Request → Exit) (words : List (List ℕ)) (sources : Sources) (outcomes : Outcomes) (old new : ChainState) : Type 0 where
  pub before : Deeds
  pub after : Deeds
  pub history : IsHistory (world_of scan compiler) sources old.disk (Ran (run_by words outcomes.first before) ∷ Ran (run_by words outcomes.second after) ∷ [])
  pub ends : last_state (last_state old.disk before.later) after.later ≡ new.disk
  pub journal : new.journal ≡ (old.journal ++ before.events) ++ after.events
  pub fresh : (order_in (reading scan words sources)).clean ≡ false → HasBuilt outcomes.first → compile_part after.events ≡ []
  pub idle : (order_in (reading scan words sources)).clean ≡ false → HasBuilt outcomes.first → plan_in (reading scan words sources) ≡ None → after.events ≡ []

-- A run is stopped at a moment of its disk, and another run finds what that stop has left. Whatever prefix of its events the stop
-- leaves, the two are a history with their tests. The second run starts no file whose request is in a record that was acknowledged
-- at that moment. If the second run is done, or its tests failed, it starts exactly the files for which the settled build has a
-- request. The settled build works over the records of the disk that is left; if all is to be built anew, no record counts.
pub record RanAfterStop (scan : List ℕ → Finding) (compiler : Request → Exit) (words : List (List ℕ)) (sources : Sources) (outcomes : Outcomes) (stopped : StoppedDisk) (old new : ChainState) : Type 0 where
  pub before : List Event
  pub after : Deeds
  pub history : (events rest tests more : List Event) → compile_part before ≡ events ++ rest → test_part before ≡ tests ++ more → ((tests ≡ [] → ⊥) → events ≡ compile_part before) →
      IsHistory (world_of scan compiler) sources stopped.first
      (Stopped (run_of words outcomes.first stopped.failed before stopped.later) (record { events = events; tests = tests; moment = stopped.moment; disk = old.disk }) ∷ Ran (run_by words outcomes.second after) ∷ [])
  pub ends : last_state old.disk after.later ≡ new.disk
  pub journal : new.journal ≡ (old.journal ++ before) ++ after.events
  pub spares : (name : FileName) (kept : Record) → IsAcknowledged (world_of scan compiler) name kept stopped.moment →
      SparesFile (world_of scan compiler) (order_of (reading scan words sources)) name kept.asked (run_by words outcomes.second after) old.disk
  pub exact : HasBuilt outcomes.second → (position : ℕ) →
      let work = work_over records_in_image (order_in (reading scan words sources)) old.disk in
      Contains (progress_of work (compile_part after.events)).taken position ↔ ((request : Request) × (request_unless compiler work.graph work.current position ≡ Some request))
