-- The journal of a build: which file is started when, over which artefacts.
use Rattle.std.specs.Prelude.{◌≡◌, ℕ, Bool, true, false, not, ◌&&◌, ◌||◌, ◌==◌, if◌then◌else◌, List, [], ◌∷◌, ◌++◌, length, map, slice_get, drop, Option, Some, None, is_some, unwrap_or}
use Rattle.std.specs.Option.{option_map, option_and_then}
use Rattle.std.specs.List.{list_any, list_all, filter_map}
use Rattle.base.specs.declared.graph.Entry.{Entry}
use Rattle.base.specs.declared.graph.BuiltFile.{BuiltFile}
use Rattle.base.specs.declared.child.Request.{Request}
use Rattle.base.specs.declared.child.Exit.{Exit}
use Rattle.base.specs.declared.child.Event.{Event}
use Rattle.base.specs.declared.child.Event.TheVariants.{Started, Ended, Gone}
use Rattle.base.specs.Jobs.{compile_request}
use Rattle.outside.specs.Children.{started_with, IsFresh}
use Rattle.outside.specs.Records.{deps_at}
use Rattle.run_spec.specs.Folds.{upto}
use Rattle.run_spec.specs.Moves.{Workload, RunningChild, EndedChild, SchedulerState, empty_schedule, Move, Starts, Ends, Loses, next_start, LawfulMoves, GreedyMoves, IsFinished}

-- What a build works on: a graph, its current artefacts, how many children run at once, and whether the build goes on after a
-- refusal. `current` gives the recorded artefact of the file at a position, if its record is current over the given files that
-- were built below it.
pub record Work : Type 0 where
  pub graph : List Entry
  pub current : ℕ → List BuiltFile → Option (List ℕ)
  pub slots : ℕ
  pub keep_going : Bool

-- a running child: its ticket, the position of its file, what it was started with, and the files below that were built
pub record Run : Type 0 where
  pub ticket : ℕ
  pub position : ℕ
  pub request : Request
  pub below : List BuiltFile

-- a child that has ended: the position of its file, what it was started with, the files below that were built then, and its exit
pub record End : Type 0 where
  pub position : ℕ
  pub request : Request
  pub below : List BuiltFile
  pub exit : Exit

-- what has happened in a build so far
pub record BuildProgress : Type 0 where
  pub taken : List ℕ
  pub runs : List Run
  pub ends : List End
  pub halted : Bool

-- before the first event of a build
abbrev pub empty_progress : BuildProgress
empty_progress = record { taken = []; runs = []; ends = []; halted = false }

-- the exit of the first child of the file at a position that has ended
unfoldable pub exit_at : List End → ℕ → Option Exit
exit_at [] position = None
exit_at (end ∷ ends) position = if end.position == position then Some end.exit else exit_at ends position

-- what the first child of the file at a position printed that ended well
unfoldable pub output_at : List EndedChild → ℕ → Option (List ℕ)
output_at [] position = None
output_at (end ∷ ended) position = if end.position == position && end.ok then Some end.output else output_at ended position

-- the first artefact, if there is one, or else the second
abbrev pub or_else : Option (List ℕ) → Option (List ℕ) → Option (List ℕ)
or_else None other = other
or_else (Some artefact) other = Some artefact

-- the file at a position with its artefact
abbrev pub built_file : Option Entry → Option (List ℕ) → Option BuiltFile
built_file (Some entry) (Some artefact) = Some (record { name = entry.name; artefact = artefact })
built_file (Some entry) None = None
built_file None artefact = None

-- the files at these positions, as far as they have an artefact
unfoldable pub built_at : List Entry → (ℕ → Option (List ℕ)) → List ℕ → List BuiltFile
built_at graph artefact_of positions = filter_map (λ position. built_file (slice_get graph position) (artefact_of position)) positions

-- all files at these positions have an artefact
unfoldable pub has_all : (ℕ → Option (List ℕ)) → List ℕ → Bool
has_all artefact_of positions = list_all (λ position. is_some (artefact_of position)) positions

-- The artefact of one more file: where all that it depends on has one, that of its record where this is current over them, or
-- else what its child printed.
abbrev pub next_artefact : Work → List EndedChild → (ℕ → Option (List ℕ)) → ℕ → Option (List ℕ)
next_artefact work ended so_far position =
    if has_all so_far (deps_at work.graph position) then or_else (work.current position (built_at work.graph so_far (deps_at work.graph position))) (output_at ended position) else None

-- the artefact that the file at a position has once these children have ended
unfoldable pub artefact_by : Work → List EndedChild → ℕ → Option (List ℕ)
artefact_by work ended position = upto (next_artefact work ended) None (length work.graph) position

-- a running child without its request
abbrev pub child_of_run : Run → RunningChild
child_of_run run = record { ticket = run.ticket; position = run.position }

-- an ended child without its request: it ended well where its code is 0
abbrev pub child_of_end : End → EndedChild
child_of_end end = record { position = end.position; ok = end.exit.code == 0; output = end.exit.output }

-- the artefact that the file at a position has after these ends
abbrev pub artefact_so_far : Work → List End → ℕ → Option (List ℕ)
artefact_so_far work ends position = artefact_by work (map child_of_end ends) position

-- what the order of a build follows from: a file is made where it has an artefact
abbrev pub workload_of : Work → Workload
workload_of work = record {
  count = length work.graph;
  deps = λ position. deps_at work.graph position;
  is_made = λ ended position. is_some (artefact_by work ended position);
  slots = work.slots;
  keep_going = work.keep_going;
}

-- what has happened, apart from requests and exits
abbrev pub schedule_of : BuildProgress → SchedulerState
schedule_of progress = record { taken = progress.taken; running = map child_of_run progress.runs; ended = map child_of_end progress.ends; halted = progress.halted }

-- what a compiler is started with for the file at a position, after these ends
unfoldable pub request_at : Work → List End → ℕ → Option Request
request_at setting ends position =
    option_map (λ entry. compile_request entry (built_at setting.graph (artefact_so_far setting ends) entry.deps)) (slice_get setting.graph position)

-- the files that the file at a position depends on, as far as they have an artefact after these ends
abbrev pub files_below : Work → List End → ℕ → List BuiltFile
files_below setting ends position = built_at setting.graph (artefact_so_far setting ends) (deps_at setting.graph position)

-- the position of the file that the next start is of
abbrev pub next_position : Work → BuildProgress → Option ℕ
next_position setting progress = next_start (workload_of setting) (schedule_of progress)

-- the running child of a ticket
abbrev pub run_of : ℕ → List Run → Option Run
run_of ticket [] = None
run_of ticket (run ∷ runs) = if run.ticket == ticket then Some run else run_of ticket runs

-- the running children without that of a ticket
abbrev pub others_of : ℕ → List Run → List Run
others_of ticket [] = []
others_of ticket (run ∷ runs) = if run.ticket == ticket then runs else run ∷ others_of ticket runs

-- the end of a run
abbrev pub end_of : Option Run → Exit → List End
end_of None exit = []
end_of (Some run) exit = record { position = run.position; request = run.request; below = run.below; exit = exit } ∷ []

-- what has happened after one more event
unfoldable pub after : Work → BuildProgress → Event → BuildProgress
after setting progress (Started ticket request) =
    let position = unwrap_or (next_position setting progress) 0 in
    record { taken = progress.taken ++ position ∷ []; runs = progress.runs ++ (record { ticket = ticket; position = position; request = request; below = files_below setting progress.ends position }) ∷ []; ends = progress.ends; halted = progress.halted }
after setting progress (Ended ticket exit) =
    record { taken = progress.taken; runs = others_of ticket progress.runs; ends = progress.ends ++ end_of (run_of ticket progress.runs) exit; halted = progress.halted || (not setting.keep_going && not (exit.code == 0)) }
after setting progress (Gone ticket) =
    record { taken = progress.taken; runs = others_of ticket progress.runs; ends = progress.ends; halted = true }

-- what has happened after events
unfoldable pub after_all : Work → BuildProgress → List Event → BuildProgress
after_all setting progress [] = progress
after_all setting progress (event ∷ events) = after_all setting (after setting progress event) events

-- what has happened after events, from the start
abbrev pub progress_of : Work → List Event → BuildProgress
progress_of setting events = after_all setting empty_progress events

-- the artefact that the file at a position has after events
abbrev pub artefact_after : Work → List Event → ℕ → Option (List ℕ)
artefact_after setting events position = artefact_so_far setting (progress_of setting events).ends position

-- the move of an event
abbrev pub move_of : Work → BuildProgress → Event → Move
move_of setting progress (Started ticket request) = Starts (unwrap_or (next_position setting progress) 0) ticket
move_of setting progress (Ended ticket exit) = Ends ticket (exit.code == 0) exit.output
move_of setting progress (Gone ticket) = Loses ticket

-- the moves of events
unfoldable pub moves_after : Work → BuildProgress → List Event → List Move
moves_after setting progress [] = []
moves_after setting progress (event ∷ events) = move_of setting progress event ∷ moves_after setting (after setting progress event) events

-- the moves of the events of a build, from its beginning on
abbrev pub moves_of : Work → List Event → List Move
moves_of setting events = moves_after setting empty_progress events

-- a start is made with what its file's compiler is started with, over the artefacts so far
abbrev pub IsRequested : Work → BuildProgress → Event → Type 0
IsRequested setting progress (Started ticket request) = option_and_then (request_at setting progress.ends) (next_position setting progress) ≡ Some request
IsRequested setting progress (Ended ticket exit) = Unit {0}
IsRequested setting progress (Gone ticket) = Unit {0}

-- each start is made with what its file's compiler is started with, over what has happened before it
unfoldable pub AreRequested : Work → BuildProgress → List Event → Type 0
AreRequested setting progress [] = Unit {0}
AreRequested setting progress (event ∷ events) = IsRequested setting progress event × AreRequested setting (after setting progress event) events

-- the property holds of each event and the events before it
unfoldable pub EachAfter : (List Event → Event → Type 0) → List Event → List Event → Type 0
EachAfter IsSo before [] = Unit {0}
EachAfter IsSo before (event ∷ events) = IsSo before event × EachAfter IsSo (before ++ event ∷ []) events

-- no start before had the ticket of this start
abbrev pub HasFreshTicket : List Event → Event → Type 0
HasFreshTicket before (Started ticket request) = IsFresh before ticket
HasFreshTicket before (Ended ticket exit) = Unit {0}
HasFreshTicket before (Gone ticket) = Unit {0}

-- The events' moves are lawful, each start has the request of its file, and no ticket is given twice.
pub record Lawful (setting : Work) (events : List Event) : Type 0 where
  pub moves : LawfulMoves (workload_of setting) empty_schedule (moves_of setting events)
  pub requests : AreRequested setting empty_progress events
  pub tickets : EachAfter HasFreshTicket [] events

-- a child's end is asked for only where nothing is to be started
abbrev pub Greedy : Work → List Event → Type 0
Greedy setting events = GreedyMoves (workload_of setting) empty_schedule (moves_of setting events)

-- an end holds the answer to what its ticket was started with
abbrev pub HoldsAnswer : (Request → Exit) → List Event → Event → Type 0
HoldsAnswer answer before (Started ticket request) = Unit {0}
HoldsAnswer answer before (Ended ticket exit) = option_map answer (started_with ticket before) ≡ Some exit
HoldsAnswer answer before (Gone ticket) = Unit {0}

-- each end holds the answer to what its ticket was started with
abbrev pub Answered : (Request → Exit) → List Event → Type 0
Answered answer events = EachAfter (HoldsAnswer answer) [] events

-- the end of a child was lost
abbrev pub is_gone : Event → Bool
is_gone (Started ticket request) = false
is_gone (Ended ticket exit) = false
is_gone (Gone ticket) = true

-- the events of a build that ended by itself
pub record IsWhole (setting : Work) (events : List Event) : Type 0 where
  pub lawful : Lawful setting events
  pub greedy : Greedy setting events
  pub finished : IsFinished (workload_of setting) (schedule_of (progress_of setting events))
  pub none_lost : list_any is_gone events ≡ false

-- what the journal has since it was old
abbrev pub since : List Event → List Event → List Event
since old new = drop (length old) new

-- what children were started with, in order
abbrev pub starts_of : List Event → List Request
starts_of [] = []
starts_of (Started ticket request ∷ events) = request ∷ starts_of events
starts_of (Ended ticket exit ∷ events) = starts_of events
starts_of (Gone ticket ∷ events) = starts_of events
