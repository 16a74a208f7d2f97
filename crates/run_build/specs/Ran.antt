-- What a build did, as its caller sees it.
use Rattle.std.specs.Prelude.{◌≡◌, ℕ, Bool, true, false, List, ◌++◌, length, slice_get, Option, Some}
use Rattle.std.specs.Bool.{OnTrue}
use Rattle.std.specs.List.{filter_map, list_any}
use Rattle.base.specs.declared.file.FileName.{FileName}
use Rattle.base.specs.declared.graph.BuiltFile.{BuiltFile}
use Rattle.base.specs.declared.graph.Entry.{Entry}
use Rattle.base.specs.declared.child.Request.{Request}
use Rattle.base.specs.declared.child.Exit.{Exit}
use Rattle.base.specs.declared.child.Event.{Event}
use Rattle.run_spec.specs.declared.statuses.FileStatus.{FileStatus}
use Rattle.run_spec.specs.declared.statuses.FileStatus.TheVariants as status
use Rattle.base.specs.PresentGraph.{below}
use Rattle.outside.specs.Records.{Record}
use Rattle.outside.specs.Disks.{Image, Moments}
use Rattle.run_spec.specs.Moves.{empty_schedule, LawfulMoves, IsFinished}
use Rattle.run_spec.specs.ChildJournal.{Work, Lawful, Answered, Greedy, schedule_of, progress_of, empty_progress, workload_of, moves_of, AreRequested, IsWhole, artefact_after, files_below, built_file, is_gone}
use Rattle.run_spec.specs.Commits.{commits, record_at}
use Rattle.run_build.specs.Commits.{Acknowledges, HoldsFirst}
use Rattle.run_spec.specs.declared.fault.RunFault.{RunFault}
use Rattle.run_build.specs.Faults.{is_all_committed, ComesFirst}

-- the file is made: its record is current, or it was compiled
abbrev pub is_made : FileStatus → Bool
is_made status.Fresh = true
is_made status.Compiled = true
is_made (status.Refused code output) = false
is_made status.Skipped = false
is_made status.Left = false

-- each file that is made, with its artefact
abbrev pub built_by : Work → List Event → List BuiltFile
built_by setting events = filter_map (λ position. built_file (slice_get setting.graph position) (artefact_after setting events position)) (below (length setting.graph))

-- what the objects of a build have at one moment: the latest records of its store, the events of the journal, and the
-- moments of the disk
pub record BuildObjects : Type 0 where
  pub latest_of : FileName → Option Record
  pub journal : List Event
  pub moments : Moments

-- how a build ended: whether by itself, the fault that it answers, and whether its store is broken
pub record Ending : Type 0 where
  pub ended : Bool
  pub fault : Option RunFault
  pub broken : Bool

-- What a build did. Its events are the ones that the journal gained. They are lawful after a fault too: each start is of
-- the first file that may be started, has its request, and comes while a slot is free. The first `acknowledged` records
-- from its children are acknowledged. The fault that it answers came first. If the build ended by itself, its events are
-- whole.
pub record BuildRan (tells told : Type 0) (answer : Request → Exit) (records_of : Image → List Record) (setting : Work) (old new : BuildObjects) (ending : Ending) (Says : List Event → Type 0) : Type 0 where
  pub events : List Event
  pub journal : tells → new.journal ≡ old.journal ++ events
  -- whatever objects tell, the moves are lawful and have their requests; where the build ended by itself no end was waited
  -- for too early, none is lost, and nothing is left to do
  pub moves : LawfulMoves (workload_of setting) empty_schedule (moves_of setting events)
  pub requests : AreRequested setting empty_progress events
  pub greedy : OnTrue ending.ended (Greedy setting events)
  pub finished : OnTrue ending.ended (IsFinished (workload_of setting) (schedule_of (progress_of setting events)))
  pub none_lost : OnTrue ending.ended (list_any is_gone events ≡ false)
  -- where the journal is told, tickets are fresh too, and each end is the answer to its start
  pub lawful : tells → Lawful setting events
  pub answered : tells → Answered answer events
  pub whole : tells → OnTrue ending.ended (IsWhole setting events)
  pub says : OnTrue ending.ended (Says events)
  -- the records that are committed
  pub acknowledged : ℕ
  pub committed : Acknowledges setting events (is_all_committed ending.fault ending.broken) old.latest_of new.latest_of acknowledged
  -- which fault is answered
  pub comes_first : ComesFirst ending.fault setting events acknowledged ending.broken
  -- if everything is committed, the latest record of each made file has its request over the files that were made below
  -- it, and its artefact
  pub recorded : OnTrue (is_all_committed ending.fault ending.broken) ((position : ℕ) (entry : Entry) (artefact : List ℕ) → slice_get setting.graph position ≡ Some entry → artefact_after setting events position ≡ Some artefact → new.latest_of entry.name ≡ Some (record_at setting.graph position (files_below setting (progress_of setting events).ends position) artefact))
  pub images : told → HoldsFirst acknowledged ending.broken (commits setting events) records_of old.moments new.moments
