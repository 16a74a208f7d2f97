-- A build that is under way: what has happened in it, its machine and its statuses.
use Rattle.std.specs.Prelude.{◌≡◌, ℕ, Bool, true, false, ◌==◌, List, [], ◌++◌, All, Option, Some, None, is_some, slice_get}
use Rattle.std.specs.List.{list_any}
use Rattle.base.specs.declared.file.FileName.{FileName}
use Rattle.base.specs.declared.graph.BuiltFile.{BuiltFile}
use Rattle.base.specs.declared.graph.Entry.{Entry}
use Rattle.base.specs.declared.child.Request.{Request}
use Rattle.base.specs.declared.child.Exit.{Exit}
use Rattle.base.specs.declared.child.Event.{Event}
use Rattle.run_spec.specs.declared.statuses.FileStatus.{FileStatus}
use Rattle.base.specs.Graphs.{IsGraph}
use Rattle.outside.specs.Records.{Record, deps_at}
use Rattle.outside.specs.Children.{started_with}
use Rattle.outside.specs.Disks.{Image, Moments}
use Rattle.run_spec.specs.Moves.{empty_schedule, LawfulMoves}
use Rattle.run_spec.specs.ChildJournal.{Work, Run, End, BuildProgress, schedule_of, progress_of, empty_progress, workload_of, moves_of, AreRequested, EachAfter, HasFreshTicket, Answered, Greedy, has_all, artefact_so_far, files_below, is_gone}
use Rattle.run_scheduler.specs.declared.build_scheduler.BuildScheduler.{BuildScheduler}
use Rattle.run_scheduler.specs.Machines.{IsMachineOf, is_stopped_in}
use Rattle.run_spec.specs.Steps.{halted_if}
use Rattle.run_spec.specs.declared.fault.RunFault.{RunFault}
use Rattle.run_spec.specs.Commits.{work_of, record_at, commits, commits_of}
use Rattle.run_build.specs.Commits.{latest_after, Acknowledges, HoldsFirst}
use Rattle.run_build.specs.Faults.{is_all_committed, ComesFirst}
use Rattle.run_build.specs.Statuses.{known_statuses}

-- What a build began with: the latest records, how many children run at once, whether it goes on after a refusal, the
-- events that the journal had, and the moments of the disk.
pub record Origin : Type 0 where
  pub latest_of : FileName → Option Record
  pub slots : ℕ
  pub keep_going : Bool
  pub journal : List Event
  pub moments : Moments

-- what a build has at one moment: its machine, its statuses, the fault that it has noted, the latest records of its store,
-- and whether the store is broken
pub record BuildState : Type 0 where
  pub machine : BuildScheduler
  pub statuses : List FileStatus
  pub first_fault : Option RunFault
  pub latest_of : FileName → Option Record
  pub broken : Bool

-- a state with another machine and another noted fault
abbrev pub with_machine : BuildScheduler → Option RunFault → BuildState → BuildState
with_machine machine first_fault state = record { machine = machine; statuses = state.statuses; first_fault = first_fault; latest_of = state.latest_of; broken = state.broken }

-- what children and disk tell at one moment: the events of the journal, and the moments of the disk
pub record Told : Type 0 where
  pub journal : List Event
  pub moments : Moments

-- the work on a graph of a build that began so: a file is current by the latest record of its name
abbrev pub work_from : List Entry → Origin → Work
work_from graph from = work_of from.latest_of graph from.slots from.keep_going

-- All that the file at a position depends on has an artefact, a child of it was started over these files, and no record was
-- current over them.
pub record IsDueOver (work : Work) (ends : List End) (position : ℕ) (below : List BuiltFile) : Type 0 where
  pub all_made : has_all (artefact_so_far work ends) (deps_at work.graph position) ≡ true
  pub below_is : below ≡ files_below work ends position
  pub stale : work.current position below ≡ None

-- If a child ended well, its output is the latest record of its file once everything is committed.
abbrev pub IsKnown : List Entry → (FileName → Option Record) → List End → End → Type 0
IsKnown graph first ends end =
    (entry : Entry) → slice_get graph end.position ≡ Some entry → (end.exit.code == 0) ≡ true → latest_after (commits_of graph ends) first entry.name ≡ Some (record_at graph end.position end.below end.exit.output)

-- Each child was started over files that have an artefact, without a current record over them; and what each child gave that
-- ended well is the latest record of its file.
pub record HasRecords (work : Work) (first : FileName → Option Record) (progress : BuildProgress) : Type 0 where
  pub runs : All (λ run. IsDueOver work progress.ends run.position run.below) progress.runs
  pub ends : All (λ end. IsDueOver work progress.ends end.position end.below) progress.ends
  pub known : All (IsKnown work.graph first progress.ends) progress.ends

-- What holds after these events, whatever objects tell. The events are lawful moves with their requests. The machine is
-- in step with them, and has stopped once a fault is noted. The statuses are the ones that a build knows by then. The
-- first `acknowledged` commits are acknowledged, and the noted fault came first. While no fault is noted, the store is
-- usable, no end was waited for too early and no child is lost.
pub record IsUnderWay (graph : List Entry) (from : Origin) (events : List Event) (acknowledged : ℕ) (state : BuildState) : Type 0 where
  pub is_graph : IsGraph graph
  pub moves : LawfulMoves (workload_of (work_from graph from)) empty_schedule (moves_of (work_from graph from) events)
  pub requests : AreRequested (work_from graph from) empty_progress events
  pub greedy : state.first_fault ≡ None → Greedy (work_from graph from) events
  pub none_lost : state.first_fault ≡ None → list_any is_gone events ≡ false
  pub usable : state.first_fault ≡ None → state.broken ≡ false
  pub in_step : IsMachineOf state.machine (workload_of (work_from graph from)) (halted_if (is_some state.first_fault) (schedule_of (progress_of (work_from graph from) events)))
  pub halts : is_stopped_in state.machine ≡ is_some state.first_fault
  pub has_status : state.statuses ≡ known_statuses (work_from graph from) (progress_of (work_from graph from) events).ends state.machine
  pub recorded : HasRecords (work_from graph from) from.latest_of (progress_of (work_from graph from) events)
  pub committed : Acknowledges (work_from graph from) events (is_all_committed state.first_fault state.broken) from.latest_of state.latest_of acknowledged
  pub comes_first : ComesFirst state.first_fault (work_from graph from) events acknowledged state.broken

-- each running child was started with its request
abbrev pub AreStartedIn : List Event → List Run → Type 0
AreStartedIn journal runs = All (λ run. started_with run.ticket journal ≡ Some run.request) runs

-- The events are what a journal has since it was old: no ticket is given twice, each end is the answer to its start, and
-- each running child was started with its request.
pub record IsJournalled (answer : Request → Exit) (setting : Work) (events : List Event) (old new : List Event) : Type 0 where
  pub follows : new ≡ old ++ events
  pub tickets : EachAfter HasFreshTicket [] events
  pub answered : Answered answer events
  pub started : AreStartedIn events (progress_of setting events).runs
  pub started_since : AreStartedIn new (progress_of setting events).runs

-- A build is under way after more events, of which none is the end of a child with code 0.
pub record GoesOn (tells : Type 0) (answer : Request → Exit) (graph : List Entry) (from : Origin) (events : List Event) (acknowledged : ℕ) (state : BuildState) (journalled : List Event) : Type 0 where
  pub more : List Event
  pub under_way : IsUnderWay graph from (events ++ more) acknowledged state
  pub journal : tells → IsJournalled answer (work_from graph from) (events ++ more) from.journal journalled
  pub same : commits (work_from graph from) (events ++ more) ≡ commits (work_from graph from) events

-- A build is under way after the end of a child: more may be acknowledged, and the disk holds it.
pub record TakesEnd (told : Type 0) (records_of : Image → List Record) (graph : List Entry) (from : Origin) (events : List Event) (state : BuildState) (moments : Moments) : Type 0 where
  pub acknowledged : ℕ
  pub under_way : IsUnderWay graph from events acknowledged state
  pub images : told → HoldsFirst acknowledged state.broken (commits (work_from graph from) events) records_of from.moments moments

-- all that holds of a build that is under way, over objects that tell
pub record Goes (tells told : Type 0) (answer : Request → Exit) (records_of : Image → List Record) (graph : List Entry) (from : Origin) (state : BuildState) (now : Told) : Type 0 where
  pub events : List Event
  pub acknowledged : ℕ
  pub under_way : IsUnderWay graph from events acknowledged state
  pub journal : tells → IsJournalled answer (work_from graph from) events from.journal now.journal
  pub images : told → HoldsFirst acknowledged state.broken (commits (work_from graph from) events) records_of from.moments now.moments

-- a build that began somehow is under way
pub record IsGoing (graph : List Entry) (state : BuildState) : Type 0 where
  pub from : Origin
  pub events : List Event
  pub acknowledged : ℕ
  pub under_way : IsUnderWay graph from events acknowledged state
