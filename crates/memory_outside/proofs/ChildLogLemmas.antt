-- The invariants of a log of children after a start and after an end.
use Rattle.std.proofs.Common.{ℕ, zero, suc, ◌+◌, ◌≡◌, ◌<◌, ◌≤◌, Bool, true, false, cond, List, [], ◌∷◌, ◌++◌, length, get_or, sym, ap, subst, refl, arith, ◌∙◌, length-append}
use Rattle.std.specs.Prelude.{Contains, Option, Some, None, slice_get, ◌==◌}
use Rattle.std.specs.List.{AllByRecursion}
use Rattle.std.proofs.lemmas.Bool.{eqb-true, eq-eqb}
use Rattle.std.proofs.lemmas.Option.{slice_get_within, none-some, same_Some}
use Rattle.memory_outside.specs.Rooms.{Roomy}
use Rattle.base.specs.declared.child.Request.{Request}
use Rattle.base.specs.declared.child.Event.{Event}
use Rattle.base.specs.declared.child.Event.TheVariants as event
use Rattle.outside.specs.Children.{started_with, without, IsFresh}
use Rattle.memory_outside.specs.ChildLogs.{IsEnd, IsChildLog, Placed}

-- taking out a ticket that is there makes the list one shorter
length-without : (ticket : ℕ) (xs : List ℕ) (k : ℕ) → k < length xs → get_or xs k ticket ≡ ticket → length (without ticket xs) + 1 ≡ length xs
length-without ticket [] k below is = absurd (omega arith)
length-without ticket (x ∷ xs) zero below is = rw (eq-eqb x ticket is) (omega arith)
length-without ticket (x ∷ xs) (suc k) below is =
    let shorter : length (without ticket xs) + 1 ≡ length xs = length-without ticket xs k (omega arith) is in
    elim (x == ticket) as (λ b. length (cond b xs (x ∷ without ticket xs)) + 1 ≡ suc (length xs)) [ true ↦ omega arith | false ↦ omega arith ]

-- what holds of each ticket holds without one
all_without : (P : ℕ → Type 0) (ticket : ℕ) (xs : List ℕ) → AllByRecursion P xs → AllByRecursion P (without ticket xs)
all_without P ticket [] all = tt
all_without P ticket (x ∷ xs) all =
    elim (x == ticket) as (λ b. AllByRecursion P (cond b xs (x ∷ without ticket xs))) [ true ↦ all.1 | false ↦ (all.0, all_without P ticket xs all.1) ]

-- a longer journal has the same tickets
all_longer : (n : ℕ) (xs : List ℕ) → AllByRecursion (λ x. x < n) xs → AllByRecursion (λ x. x < n + 1) xs
all_longer n [] all = tt
all_longer n (x ∷ xs) all = let below : x < n = all.0 in (omega arith, all_longer n xs all.1)

-- a start's ticket is the length that the journal had
all_started : (n : ℕ) (xs : List ℕ) → AllByRecursion (λ x. x < n) xs → AllByRecursion (λ x. x < n + 1) (xs ++ n ∷ [])
all_started n [] all = (omega arith, tt)
all_started n (x ∷ xs) all = let below : x < n = all.0 in (omega arith, all_started n xs all.1)

-- what is in a journal is in a longer one
get_longer : (xs ys : List Event) (k : ℕ) (x : Event) → slice_get xs k ≡ Some x → slice_get (xs ++ ys) k ≡ Some x
get_longer [] ys k x is = absurd (none-some x is)
get_longer (y ∷ xs) ys zero x is = is
get_longer (y ∷ xs) ys (suc k) x is = get_longer xs ys k x is

-- the event after a journal
get_last : (xs : List Event) (x : Event) → slice_get (xs ++ x ∷ []) (length xs) ≡ Some x
get_last [] x = refl
get_last (y ∷ xs) x = get_last xs x

-- an end starts nothing
started_with-end : (ticket : ℕ) (journal : List Event) (end : Event) → IsEnd end → started_with ticket (journal ++ end ∷ []) ≡ started_with ticket journal
started_with-end ticket [] (event.Started other request) is = absurd is
started_with-end ticket [] (event.Ended other exit) is = refl
started_with-end ticket [] (event.Gone other) is = refl
started_with-end ticket (event.Started other request ∷ rest) end is = ap (λ o. cond (other == ticket) (Some request) o) (started_with-end ticket rest end is)
started_with-end ticket (event.Ended other exit ∷ rest) end is = started_with-end ticket rest end is
started_with-end ticket (event.Gone other ∷ rest) end is = started_with-end ticket rest end is

-- the first request, or the second if the first is missing
abbrev first_of_two : Option Request → Option Request → Option Request
first_of_two (Some request) other = Some request
first_of_two None other = other

-- a start at the end of a journal counts for its ticket unless an earlier start does
started_with-start : (ticket other : ℕ) (request : Request) (journal : List Event) → started_with ticket (journal ++ event.Started other request ∷ []) ≡ first_of_two (started_with ticket journal) (cond (other == ticket) (Some request) None)
started_with-start ticket other request [] = refl
started_with-start ticket other request (event.Started first begun ∷ rest) =
    elim (first == ticket) as (λ b. cond b (Some begun) (started_with ticket (rest ++ event.Started other request ∷ [])) ≡ first_of_two (cond b (Some begun) (started_with ticket rest)) (cond (other == ticket) (Some request) None))
    [ true ↦ refl | false ↦ started_with-start ticket other request rest ]
started_with-start ticket other request (event.Ended first exit ∷ rest) = started_with-start ticket other request rest
started_with-start ticket other request (event.Gone first ∷ rest) = started_with-start ticket other request rest

-- the ticket of the next start is fresh
pub fresh : (journal : List Event) → Placed journal → IsFresh journal (length journal)
fresh journal placed = go (started_with (length journal) journal) refl
  where
    go : (o : Option Request) → started_with (length journal) journal ≡ o → o ≡ None
    go None is = refl
    go (Some request) is = let within : length journal < length journal = slice_get_within journal (length journal) (event.Started (length journal) request) (placed (length journal) request is) in absurd (omega arith)

none_after : (ticket other : ℕ) (request : Request) (rest : List Event) (k : ℕ) (here : Event) (same : Bool) → (other == ticket) ≡ same → slice_get (event.Started other request ∷ rest) k ≡ Some here → cond same (Some request) (started_with ticket rest) ≡ None → ((k : ℕ) (here : Event) → slice_get rest k ≡ Some here → started_with ticket rest ≡ None → started_with ticket (here ∷ []) ≡ None) → started_with ticket (here ∷ []) ≡ None
none_after ticket other request rest k here true same is none later = absurd (none-some request (sym none))
none_after ticket other request rest zero here false same is none later =
    let alone : started_with ticket (event.Started other request ∷ []) ≡ None = rw same refl in
    subst (λ e. started_with ticket (e ∷ []) ≡ None) (same_Some _ _ is) alone
none_after ticket other request rest (suc k) here false same is none later = later k here is none

-- a ticket's event, where its start is elsewhere or nowhere
none_at : (ticket : ℕ) (journal : List Event) (k : ℕ) (here : Event) → slice_get journal k ≡ Some here → started_with ticket journal ≡ None → started_with ticket (here ∷ []) ≡ None
none_at ticket [] k here is none = absurd (none-some here is)
none_at ticket (event.Started other request ∷ rest) k here is none = none_after ticket other request rest k here (other == ticket) refl is none (none_at ticket rest)
none_at ticket (event.Ended other exit ∷ rest) zero here is none = subst (λ e. started_with ticket (e ∷ []) ≡ None) (same_Some _ _ is) refl
none_at ticket (event.Ended other exit ∷ rest) (suc k) here is none = none_at ticket rest k here is none
none_at ticket (event.Gone other ∷ rest) zero here is none = subst (λ e. started_with ticket (e ∷ []) ≡ None) (same_Some _ _ is) refl
none_at ticket (event.Gone other ∷ rest) (suc k) here is none = none_at ticket rest k here is none

request_at : (ticket : ℕ) (journal : List Event) (here : Event) → Placed journal → slice_get journal ticket ≡ Some here → (o : Option Request) → started_with ticket journal ≡ o → started_with ticket (here ∷ []) ≡ started_with ticket journal
request_at ticket journal here placed is None none = none_at ticket journal ticket here is none ∙ sym none
request_at ticket journal here placed is (Some request) started =
    let this : event.Started ticket request ≡ here = same_Some _ _ (sym (placed ticket request started) ∙ is) in
    let alone : started_with ticket (event.Started ticket request ∷ []) ≡ Some request = rw (eq-eqb ticket ticket refl) refl in
    subst (λ e. started_with ticket (e ∷ []) ≡ Some request) this alone ∙ sym started

-- the event at the index of a ticket tells what it was started with
pub request_there : (ticket : ℕ) (journal : List Event) (here : Event) → Placed journal → slice_get journal ticket ≡ Some here → started_with ticket (here ∷ []) ≡ started_with ticket journal
request_there ticket journal here placed is = request_at ticket journal here placed is (started_with ticket journal) refl

-- an end keeps the tickets at their indices
placed_end : (journal : List Event) (end : Event) → IsEnd end → Placed journal → Placed (journal ++ end ∷ [])
placed_end journal end is placed ticket request started =
    get_longer journal (end ∷ []) ticket (event.Started ticket request) (placed ticket request (sym (started_with-end ticket journal end is) ∙ started))

start_at : (journal : List Event) (request : Request) → Placed journal → (ticket : ℕ) (asked : Request) (o : Option Request) → started_with ticket journal ≡ o → (same : Bool) → (length journal == ticket) ≡ same → first_of_two o (cond same (Some request) None) ≡ Some asked → slice_get (journal ++ event.Started (length journal) request ∷ []) ticket ≡ Some (event.Started ticket asked)
start_at journal request placed ticket asked (Some begun) is same test started =
    let this : begun ≡ asked = same_Some _ _ started in
    get_longer journal (event.Started (length journal) request ∷ []) ticket (event.Started ticket asked) (placed ticket asked (is ∙ started))
start_at journal request placed ticket asked None is true test started =
    let this : request ≡ asked = same_Some _ _ started in
    let at : length journal ≡ ticket = eqb-true (length journal) ticket test in
    subst (λ t. slice_get (journal ++ event.Started (length journal) request ∷ []) t ≡ Some (event.Started t asked)) at (get_last journal (event.Started (length journal) request) ∙ ap (λ r. Some (event.Started (length journal) r)) this)
start_at journal request placed ticket asked None is false test started = absurd (none-some asked started)

-- a start keeps the tickets at their indices
placed_start : (journal : List Event) (request : Request) → Placed journal → Placed (journal ++ event.Started (length journal) request ∷ [])
placed_start journal request placed ticket asked started =
    start_at journal request placed ticket asked (started_with ticket journal) refl (length journal == ticket) refl (sym (started_with-start ticket (length journal) request journal) ∙ started)

-- a log after a start
pub child_log_started : (running : List ℕ) (old new : Roomy Event) (request : Request) → IsChildLog running old → length old.items + length running + 2 ≤ new.room → new.items ≡ old.items ++ event.Started (length old.items) request ∷ [] → IsChildLog (running ++ length old.items ∷ []) new
child_log_started running old new request child_log room items =
    record {
      placed = subst Placed (sym items) (placed_start old.items request child_log.placed);
      begun = subst (λ js. AllByRecursion (λ ticket. ticket < length js) (running ++ length old.items ∷ [])) (sym items) (rw length-append (all_started (length old.items) running child_log.begun));
      room = simp length-append (rw items (omega (arith, length-append {A = ℕ}, length-append {A = Event})));
    }

-- a log after an end
pub child_log_ended : (running : List ℕ) (old new : Roomy Event) (ticket : ℕ) (end : Event) → IsEnd end → Contains running ticket → IsChildLog running old → old.room ≤ new.room → new.items ≡ old.items ++ end ∷ [] → IsChildLog (without ticket running) new
child_log_ended running old new ticket end is there child_log room items =
    let shorter : length (without ticket running) + 1 ≡ length running = length-without ticket running there.0 there.1 there.2 in
    let longer : length new.items ≡ length old.items + 1 = rw items (simp length-append (omega arith)) in
    let had : length old.items + length running ≤ old.room = child_log.room in
    record {
      placed = subst Placed (sym items) (placed_end old.items end is child_log.placed);
      begun = rw longer (all_longer (length old.items) (without ticket running) (all_without (λ x. x < length old.items) ticket running child_log.begun));
      room = omega arith;
    }
