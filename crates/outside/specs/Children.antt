-- Children: the running tickets, the journal of starts and ends, and the answer function.
use Rattle.std.specs.Prelude.{◌≡◌, ℕ, ◌≤◌, ◌==◌, List, [], ◌∷◌, ◌++◌, length, Option, Some, None, IfSome, Contains, Result, Ok, Err, if◌then◌else◌}
use Rattle.base.specs.declared.child.Request.{Request}
use Rattle.base.specs.declared.child.Exit.{Exit}
use Rattle.base.specs.declared.child.MaybeText.{MaybeText}
use Rattle.base.specs.declared.child.MaybeText.TheVariants.{Nothing, Given}
use Rattle.base.specs.declared.child.Event.{Event}
use Rattle.base.specs.declared.child.Event.TheVariants as event
use Rattle.outside.specs.declared.procs.Ended.{Ended}
use Rattle.outside.specs.declared.procs.StartFault.{StartFault}
use Rattle.outside.specs.declared.procs.WaitFault.{WaitFault}
use Rattle.outside.specs.declared.procs.WaitFault.TheVariants as wait
use Rattle.base.specs.declared.limits.TheConstants.{ARTEFACT_LIMIT, RESULTS_LIMIT}

-- the request that a ticket was started with
abbrev pub started_with : ℕ → List Event → Option Request
started_with ticket [] = None
started_with ticket (event.Started other request ∷ events) = if other == ticket then Some request else started_with ticket events
started_with ticket (event.Ended other exit ∷ events) = started_with ticket events
started_with ticket (event.Gone other ∷ events) = started_with ticket events

-- no start of the journal gave the ticket
abbrev pub IsFresh : List Event → ℕ → Type 0
IsFresh journal ticket = started_with ticket journal ≡ None

-- After Ok the new ticket, which didn't run, runs last; after a fault the same tickets run.
abbrev pub AddsTicket : Result ℕ StartFault → List ℕ → List ℕ → Type 0
AddsTicket (Ok ticket) old new = (¬ (Contains old ticket)) × (new ≡ old ++ ticket ∷ [])
AddsTicket (Err fault) old new = new ≡ old

-- after Ok the journal has the start at its end, after a fault it is unchanged
abbrev pub AddsStart : Request → Result ℕ StartFault → List Event → List Event → Type 0
AddsStart request (Ok ticket) old new = new ≡ old ++ event.Started ticket request ∷ []
AddsStart request (Err fault) old new = new ≡ old

-- the ticket that a wait ended, with an exit or without
abbrev pub ended_ticket : Result Ended WaitFault → ℕ
ended_ticket (Ok end) = end.ticket
ended_ticket (Err (wait.NoMemory ticket)) = ticket
ended_ticket (Err (wait.Lost ticket)) = ticket

-- the tickets without the first that is this one
abbrev pub without : ℕ → List ℕ → List ℕ
without ticket [] = []
without ticket (other ∷ others) = if other == ticket then others else other ∷ without ticket others

-- the event that a wait adds
abbrev pub end_event : Result Ended WaitFault → Event
end_event (Ok end) = event.Ended end.ticket end.exit
end_event (Err (wait.NoMemory ticket)) = event.Gone ticket
end_event (Err (wait.Lost ticket)) = event.Gone ticket

-- the exit is the answer to the request that its ticket was started with
abbrev pub AnswersStarted : (Request → Exit) → List Event → Ended → Type 0
AnswersStarted answer journal end = IfSome (started_with end.ticket journal) (λ request. end.exit ≡ answer request)

-- results are given only where the request names a path for them
abbrev pub AnswersPath : MaybeText → MaybeText → Type 0
AnswersPath Nothing found = found ≡ Nothing
AnswersPath (Given path) found = Unit {0}

-- results come only where the request that the end's ticket was started with names a path for them
abbrev pub AnswersStartedPath : List Event → Ended → Type 0
AnswersStartedPath journal end = IfSome (started_with end.ticket journal) (λ request. AnswersPath request.results end.exit.results)

-- a text, if one is given, has at most `limit` bytes
abbrev pub IsShort : ℕ → MaybeText → Type 0
IsShort limit Nothing = Unit {0}
IsShort limit (Given bytes) = length bytes ≤ limit

-- an exit holds at most 262,144 bytes of output and 1,048,576 bytes of results
pub record FitsExit (exit : Exit) : Type 0 where
  pub output : length exit.output ≤ ARTEFACT_LIMIT
  pub results : IsShort RESULTS_LIMIT exit.results
