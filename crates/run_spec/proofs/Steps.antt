-- A lawful journal, event after event: what each start takes and asks, and what each end answers.
use Rattle.std.proofs.Common.{◌≡◌, ℕ, ◌<◌, true, false, ◌&&◌, not, eqb, ltb, List, map, Option, Some, None, inl, inr, sym, subst, ◌∙◌, [], ◌∷◌, ◌++◌, length, refl, ap}
use Rattle.std.specs.Prelude.{All, unwrap_or}
use Rattle.std.specs.Option.{option_map, option_and_then}
use Rattle.std.specs.List.{list_any}
use Rattle.std.proofs.lemmas.Bool.{eq-eqb, eqb-true, cond-true, cond-false, cases_Bool, and_parts, ltb-true, not-true, false≢true}
use Rattle.std.proofs.lemmas.List.{length-map}
use Rattle.std.proofs.lemmas.List.Elements.{All-nil, All-head, All-tail, All-cons, All-push, All-weaker}
use Rattle.std.proofs.lemmas.Option.{none-some, same_Some}
use Rattle.base.specs.declared.child.Request.{Request}
use Rattle.base.specs.declared.child.Exit.{Exit}
use Rattle.base.specs.declared.child.Event.{Event}
use Rattle.base.specs.declared.child.Event.TheVariants.{Started, Ended, Gone}
use Rattle.outside.specs.Children.{started_with, IsFresh}
use Rattle.run_spec.specs.Moves.{SchedulerState, start_now, LawfulMoves}
use Rattle.run_spec.specs.ChildJournal.{Work, Run, BuildProgress, empty_progress, workload_of, child_of_run, schedule_of, next_position, files_below, request_at, run_of, others_of, after, moves_after, AreRequested, EachAfter, HasFreshTicket, HoldsAnswer, Answered, Lawful}
use Rattle.run_spec.proofs.Journal.{schedule_after}

-- a start takes a free slot, comes while the build isn't halted, and asks for the least file that may be started
pub record IsStart (setting : Work) (progress : BuildProgress) (request : Request) : Type 0 where
  pub free : length progress.runs < setting.slots
  pub goes_on : progress.halted ≡ false
  pub least : option_and_then (request_at setting progress.ends) (next_position setting progress) ≡ Some request

-- each start is one, and each end holds the answer to what its running child was started with
unfoldable pub Steps : (Request → Exit) → Work → BuildProgress → List Event → Type 0
Steps answer setting progress [] = Unit {0}
Steps answer setting progress (Started ticket request ∷ events) = IsStart setting progress request × Steps answer setting (after setting progress (Started ticket request)) events
Steps answer setting progress (Ended ticket exit ∷ events) =
    (option_map (λ run. answer run.request) (run_of ticket progress.runs) ≡ Some exit) × Steps answer setting (after setting progress (Ended ticket exit)) events
Steps answer setting progress (Gone ticket ∷ events) = Steps answer setting (after setting progress (Gone ticket)) events

-- what is found in a list has what all of the list have
pub run_found : (P : Run → Type 0) (runs : List Run) (ticket : ℕ) (run : Run) → run_of ticket runs ≡ Some run → All P runs → P run
run_found P [] ticket run h all = absurd (none-some run h)
run_found P (first ∷ runs) ticket run h all =
    elim (cases_Bool (eqb first.ticket ticket)) [
      | inl t ↦ subst P (same_Some first run (sym (cond-true (eqb first.ticket ticket) (Some first) (run_of ticket runs) t) ∙ h)) (All-head P first runs all)
      | inr f ↦ run_found P runs ticket run (sym (cond-false (eqb first.ticket ticket) (Some first) (run_of ticket runs) f) ∙ h) (All-tail P first runs all)
    ]

pub All-others : (P : Run → Type 0) (runs : List Run) (ticket : ℕ) → All P runs → All P (others_of ticket runs)
All-others P [] ticket all = all
All-others P (first ∷ runs) ticket all =
    elim (cases_Bool (eqb first.ticket ticket)) [
      | inl t ↦ subst (All P) (sym (cond-true (eqb first.ticket ticket) runs (first ∷ others_of ticket runs) t)) (All-tail P first runs all)
      | inr f ↦ subst (All P) (sym (cond-false (eqb first.ticket ticket) runs (first ∷ others_of ticket runs) f))
          (All-cons P first (others_of ticket runs) (All-head P first runs all) (All-others P runs ticket (All-tail P first runs all)))
    ]

-- a running child is found, with its ticket
pub run_of_running : (ticket : ℕ) (runs : List Run) → list_any (λ child. eqb child.ticket ticket) (map child_of_run runs) ≡ true → (run : Run) × (run_of ticket runs ≡ Some run) × (run.ticket ≡ ticket)
run_of_running ticket [] h = absurd (false≢true h)
run_of_running ticket (run ∷ runs) h =
    elim (cases_Bool (eqb run.ticket ticket)) [
      | inl t ↦ (run, cond-true (eqb run.ticket ticket) (Some run) (run_of ticket runs) t, eqb-true run.ticket ticket t)
      | inr f ↦
          let rest = run_of_running ticket runs (rw f at h) in
          (rest.0, cond-false (eqb run.ticket ticket) (Some run) (run_of ticket runs) f ∙ rest.1, rest.2)
    ]

-- an event more changes nothing of what a ticket was started with
still_started : (before : List Event) (event : Event) (ticket : ℕ) (request : Request) → started_with ticket before ≡ Some request → started_with ticket (before ++ event ∷ []) ≡ Some request
still_started [] event ticket request h = absurd (none-some request h)
still_started (Started other r ∷ before) event ticket request h =
    elim (cases_Bool (eqb other ticket)) [
      | inl t ↦ cond-true (eqb other ticket) (Some r) (started_with ticket (before ++ event ∷ [])) t ∙ sym (cond-true (eqb other ticket) (Some r) (started_with ticket before) t) ∙ h
      | inr f ↦ cond-false (eqb other ticket) (Some r) (started_with ticket (before ++ event ∷ [])) f
          ∙ still_started before event ticket request (sym (cond-false (eqb other ticket) (Some r) (started_with ticket before) f) ∙ h)
    ]
still_started (Ended other e ∷ before) event ticket request h = still_started before event ticket request h
still_started (Gone other ∷ before) event ticket request h = still_started before event ticket request h

-- a fresh ticket's request is that of its start
pub started_is : (journal : List Event) (ticket : ℕ) (request : Request) → IsFresh journal ticket → started_with ticket (journal ++ Started ticket request ∷ []) ≡ Some request
started_is [] ticket request h = cond-true (eqb ticket ticket) (Some request) None (eq-eqb ticket ticket refl)
started_is (Started other r ∷ events) ticket request h =
    elim (cases_Bool (eqb other ticket)) [
      | inl t ↦ absurd (none-some r (sym h ∙ cond-true (eqb other ticket) (Some r) (started_with ticket events) t))
      | inr f ↦ cond-false (eqb other ticket) (Some r) (started_with ticket (events ++ Started ticket request ∷ [])) f ∙ started_is events ticket request (sym (cond-false (eqb other ticket) (Some r) (started_with ticket events) f) ∙ h)
    ]
started_is (Ended other e ∷ events) ticket request h = started_is events ticket request h
started_is (Gone other ∷ events) ticket request h = started_is events ticket request h

-- a ticket that is fresh after all events is so after the last of them
pub fresh_after : (xs ys : List Event) (ticket : ℕ) → IsFresh (xs ++ ys) ticket → IsFresh ys ticket
fresh_after [] ys ticket h = h
fresh_after (Started other r ∷ xs) ys ticket h =
    elim (cases_Bool (eqb other ticket)) [
      | inl t ↦ absurd (none-some r (sym h ∙ cond-true (eqb other ticket) (Some r) (started_with ticket (xs ++ ys)) t))
      | inr f ↦ fresh_after xs ys ticket (sym (cond-false (eqb other ticket) (Some r) (started_with ticket (xs ++ ys)) f) ∙ h)
    ]
fresh_after (Ended other e ∷ xs) ys ticket h = fresh_after xs ys ticket h
fresh_after (Gone other ∷ xs) ys ticket h = fresh_after xs ys ticket h

-- the position that is to be started now
pub now_parts : (s : Work) (b : BuildProgress) (position : ℕ) → start_now (workload_of s) (schedule_of b) ≡ Some position → (length b.runs < s.slots) × (b.halted ≡ false) × (next_position s b ≡ Some position)
now_parts s b position h =
    elim (cases_Bool (ltb (length (map child_of_run b.runs)) s.slots && not b.halted)) [
      | inl t ↦
          let parts = and_parts (ltb (length (map child_of_run b.runs)) s.slots) (not b.halted) t in (
            subst (λ (n : ℕ). n < s.slots) (length-map b.runs child_of_run) (ltb-true (length (map child_of_run b.runs)) s.slots parts.0),
            not-true b.halted parts.1,
            sym (cond-true (ltb (length (map child_of_run b.runs)) s.slots && not b.halted) (next_position s b) None t) ∙ h,
          )
      | inr f ↦ absurd (none-some position (sym (cond-false (ltb (length (map child_of_run b.runs)) s.slots && not b.halted) (next_position s b) None f) ∙ h))
    ]

start_from : (s : Work) (b : BuildProgress) (request : Request) → (next : Option ℕ) → next_position s b ≡ next → start_now (workload_of s) (schedule_of b) ≡ Some (unwrap_or next 0) →
    option_and_then (request_at s b.ends) (next_position s b) ≡ Some request → IsStart s b request
start_from s b request next e now asked = let parts = now_parts s b (unwrap_or next 0) now in record { free = parts.0; goes_on = parts.1; least = asked }

-- each running child's ticket was started with its request
abbrev pub AreStarted : List Event → List Run → Type 0
AreStarted before runs = All (λ run. started_with run.ticket before ≡ Some run.request) runs

pub still_all : (before : List Event) (event : Event) (runs : List Run) → AreStarted before runs → AreStarted (before ++ event ∷ []) runs
still_all before event runs all =
    All-weaker (λ run. started_with run.ticket before ≡ Some run.request) (λ run. started_with run.ticket (before ++ event ∷ []) ≡ Some run.request)
    (λ run is. still_started before event run.ticket run.request is) runs all

pub started_all : (s : Work) (before : List Event) (b : BuildProgress) (t : ℕ) (r : Request) → AreStarted before b.runs → IsFresh before t → AreStarted (before ++ Started t r ∷ []) (after s b (Started t r)).runs
unfolding after
started_all s before b t r all fresh =
    All-push (λ run. started_with run.ticket (before ++ Started t r ∷ []) ≡ Some run.request) b.runs (record { ticket = t; position = unwrap_or (next_position s b) 0; request = r; below = files_below s b.ends (unwrap_or (next_position s b) 0) })
    (still_all before (Started t r) b.runs all) (started_is before t r fresh)

pub ended_all : (s : Work) (before : List Event) (b : BuildProgress) (t : ℕ) (e : Exit) → AreStarted before b.runs → AreStarted (before ++ Ended t e ∷ []) (after s b (Ended t e)).runs
unfolding after
ended_all s before b t e all = still_all before (Ended t e) (others_of t b.runs) (All-others (λ run. started_with run.ticket before ≡ Some run.request) b.runs t all)

pub gone_all : (s : Work) (before : List Event) (b : BuildProgress) (t : ℕ) → AreStarted before b.runs → AreStarted (before ++ Gone t ∷ []) (after s b (Gone t)).runs
unfolding after
gone_all s before b t all = still_all before (Gone t) (others_of t b.runs) (All-others (λ run. started_with run.ticket before ≡ Some run.request) b.runs t all)

answer_from : (answer : Request → Exit) (before : List Event) (b : BuildProgress) (ticket : ℕ) (exit : Exit) → AreStarted before b.runs → list_any (λ child. eqb child.ticket ticket) (map child_of_run b.runs) ≡ true →
    option_map answer (started_with ticket before) ≡ Some exit → option_map (λ run. answer run.request) (run_of ticket b.runs) ≡ Some exit
answer_from answer before b ticket exit all runs h =
    let found = run_of_running ticket b.runs runs in
    let started : started_with found.0.ticket before ≡ Some found.0.request = run_found (λ run. started_with run.ticket before ≡ Some run.request) b.runs ticket found.0 found.1 all in
    let here : started_with ticket before ≡ Some found.0.request = subst (λ (t : ℕ). started_with t before ≡ Some found.0.request) found.2 started in
    ap (option_map (λ run. answer run.request)) found.1 ∙ sym (ap (option_map answer) here) ∙ h

steps_from : (answer : Request → Exit) (s : Work) (before : List Event) (b : BuildProgress) → AreStarted before b.runs → (events : List Event) →
    LawfulMoves (workload_of s) (schedule_of b) (moves_after s b events) → AreRequested s b events → EachAfter HasFreshTicket before events → EachAfter (HoldsAnswer answer) before events →
    Steps answer s b events
unfolding LawfulMoves AreRequested EachAfter moves_after Steps
steps_from answer s before b all [] moves requests tickets answers = tt
steps_from answer s before b all (Started t r ∷ events) moves requests tickets answers = (
  start_from s b r (next_position s b) refl moves.0 requests.0,
  steps_from answer s (before ++ Started t r ∷ []) (after s b (Started t r))
      (started_all s before b t r all tickets.0)
      events (subst (λ (schedule : SchedulerState). LawfulMoves (workload_of s) schedule (moves_after s (after s b (Started t r)) events)) (sym (schedule_after s b (Started t r))) moves.1) requests.1 tickets.1 answers.1,
)
steps_from answer s before b all (Ended t e ∷ events) moves requests tickets answers = (
  answer_from answer before b t e all moves.0 answers.0,
  steps_from answer s (before ++ Ended t e ∷ []) (after s b (Ended t e))
      (ended_all s before b t e all)
      events (subst (λ (schedule : SchedulerState). LawfulMoves (workload_of s) schedule (moves_after s (after s b (Ended t e)) events)) (sym (schedule_after s b (Ended t e))) moves.1) requests.1 tickets.1 answers.1,
)
steps_from answer s before b all (Gone t ∷ events) moves requests tickets answers =
    steps_from answer s (before ++ Gone t ∷ []) (after s b (Gone t))
    (gone_all s before b t all)
    events (subst (λ (schedule : SchedulerState). LawfulMoves (workload_of s) schedule (moves_after s (after s b (Gone t)) events)) (sym (schedule_after s b (Gone t))) moves.1) requests.1 tickets.1 answers.1

-- a lawful journal whose ends are answers goes step by step
pub steps_of : (answer : Request → Exit) (s : Work) (events : List Event) → Lawful s events → Answered answer events → Steps answer s empty_progress events
steps_of answer s events lawful answered = steps_from answer s [] empty_progress (All-nil (λ run. started_with run.ticket [] ≡ Some run.request)) events lawful.moves lawful.requests lawful.tickets answered
