-- Each end of a run is the answer to what its child was started with.
use Rattle.std.proofs.Common.{◌≡◌, ℕ, true, eqb, List, [], ◌∷◌, ◌++◌, Option, Some, Err, inl, inr, sym, ap, subst, ◌∙◌}
use Rattle.std.specs.Prelude.{All, IfSome, unwrap_or}
use Rattle.std.specs.Option.{option_map}
use Rattle.std.specs.List.{list_any}
use Rattle.std.proofs.lemmas.Bool.{eqb-true, cond-true, cond-false, cases_Bool, false≢true}
use Rattle.std.proofs.lemmas.List.{append_assoc, append-nil}
use Rattle.std.proofs.lemmas.Option.{none-some}
use Rattle.std.proofs.lemmas.List.Elements.{All-nil, All-head, All-tail, All-cons, All-push, All-weaker}
use Rattle.base.specs.declared.child.Request.{Request}
use Rattle.base.specs.declared.child.Exit.{Exit}
use Rattle.base.specs.declared.child.Event.{Event}
use Rattle.base.specs.declared.child.Event.TheVariants.{Started, Ended, Gone}
use Rattle.outside.specs.declared.procs.WaitFault.{WaitFault}
use Rattle.outside.specs.declared.procs.WaitFault.TheVariants as wait
use Rattle.outside.specs.Children.{started_with, end_event}
use Rattle.run_spec.specs.Moves.{RunningChild, empty_schedule, without_child, after_move, LawfulMoves}
use Rattle.run_spec.specs.ChildJournal.{EachAfter, HasFreshTicket, HoldsAnswer, Answered}
use Rattle.run_spec.proofs.Journal.{EachAfter-append}
use Rattle.run_spec.proofs.Steps.{started_is, fresh_after}
use Rattle.run_spec.specs.TestJournal.{TestSetting, TestProgress, test_workload, test_moves, after_test, empty_tests, next_run}
use Rattle.run_tests.specs.UnderWay.{AnswersStart}

-- more events change nothing of what a ticket was started with
pub still_more : (before more : List Event) (ticket : ℕ) (request : Request) → started_with ticket before ≡ Some request → started_with ticket (before ++ more) ≡ Some request
still_more [] more ticket request h = absurd (none-some request h)
still_more (Started other r ∷ before) more ticket request h =
    elim (cases_Bool (eqb other ticket)) [
      | inl t ↦ cond-true (eqb other ticket) (Some r) (started_with ticket (before ++ more)) t ∙ sym (cond-true (eqb other ticket) (Some r) (started_with ticket before) t) ∙ h
      | inr f ↦ cond-false (eqb other ticket) (Some r) (started_with ticket (before ++ more)) f
          ∙ still_more before more ticket request (sym (cond-false (eqb other ticket) (Some r) (started_with ticket before) f) ∙ h)
    ]
still_more (Ended other e ∷ before) more ticket request h = still_more before more ticket request h
still_more (Gone other ∷ before) more ticket request h = still_more before more ticket request h

-- the request that a running child was started with, in these events and in all of the journal
abbrev WasStarted : (old before : List Event) → RunningChild → Type 0
WasStarted old before child = (request : Request) × (started_with child.ticket before ≡ Some request) × (started_with child.ticket (old ++ before) ≡ Some request)

one_more : (old before : List Event) (event : Event) (child : RunningChild) → WasStarted old before child → WasStarted old (before ++ event ∷ []) child
one_more old before event child was = (
  was.0,
  still_more before (event ∷ []) child.ticket was.0 was.1,
  ap (started_with child.ticket) (sym (append_assoc old before (event ∷ []))) ∙ still_more (old ++ before) (event ∷ []) child.ticket was.0 was.2,
)

all_more : (old before : List Event) (event : Event) (running : List RunningChild) → All (WasStarted old before) running → All (WasStarted old (before ++ event ∷ [])) running
all_more old before event running all = All-weaker (WasStarted old before) (WasStarted old (before ++ event ∷ [])) (λ child was. one_more old before event child was) running all

-- children that are left run as they did
pub all_left : (P : RunningChild → Type 0) (ticket : ℕ) (running : List RunningChild) → All P running → All P (without_child ticket running)
all_left P ticket [] all = all
all_left P ticket (child ∷ running) all =
    elim (cases_Bool (eqb child.ticket ticket)) [
      | inl t ↦ subst (All P) (sym (cond-true (eqb child.ticket ticket) running (child ∷ without_child ticket running) t)) (All-tail P child running all)
      | inr f ↦ subst (All P) (sym (cond-false (eqb child.ticket ticket) running (child ∷ without_child ticket running) f))
          (All-cons P child (without_child ticket running) (All-head P child running all) (all_left P ticket running (All-tail P child running all)))
    ]

-- a running child was started, with its request in both journals
found_in : (old before : List Event) (ticket : ℕ) (running : List RunningChild) → All (WasStarted old before) running → list_any (λ child. eqb child.ticket ticket) running ≡ true →
    (request : Request) × (started_with ticket before ≡ Some request) × (started_with ticket (old ++ before) ≡ Some request)
found_in old before ticket [] all h = absurd (false≢true h)
found_in old before ticket (child ∷ running) all h =
    elim (cases_Bool (eqb child.ticket ticket)) [
      | inl t ↦
          let was = All-head (WasStarted old before) child running all in
          let same : child.ticket ≡ ticket = eqb-true child.ticket ticket t in
          (was.0, subst (λ (n : ℕ). started_with n before ≡ Some was.0) same was.1, subst (λ (n : ℕ). started_with n (old ++ before) ≡ Some was.0) same was.2)
      | inr f ↦ found_in old before ticket running (All-tail (WasStarted old before) child running all) (rw f at h)
    ]

holds : (answer : Request → Exit) (old before : List Event) (ticket : ℕ) (exit : Exit) (request : Request) → started_with ticket before ≡ Some request → started_with ticket (old ++ before) ≡ Some request →
    IfSome (started_with ticket (old ++ before)) (λ request. exit ≡ answer request) → option_map answer (started_with ticket before) ≡ Some exit
holds answer old before ticket exit request here since answers =
    let is : exit ≡ answer request = subst (λ (o : Option Request). IfSome o (λ request. exit ≡ answer request)) since answers in
    ap (option_map answer) here ∙ ap (λ (e : Exit). Some e) (sym is)

then_each : (P : List Event → Event → Type 0) (old before : List Event) (event : Event) (events : List Event) → EachAfter P ((old ++ before) ++ event ∷ []) events → EachAfter P (old ++ (before ++ event ∷ [])) events
then_each P old before event events each = subst (λ (l : List Event). EachAfter P l events) (append_assoc old before (event ∷ [])) each

answered_each : (answer : Request → Exit) (s : TestSetting) (old before : List Event) (progress : TestProgress) (events : List Event) → All (WasStarted old before) progress.schedule.running →
    LawfulMoves (test_workload s) progress.schedule (test_moves s progress events) → EachAfter HasFreshTicket (old ++ before) events → EachAfter (AnswersStart answer) (old ++ before) events → EachAfter (HoldsAnswer answer) before events
unfolding LawfulMoves test_moves EachAfter after_test after_move
answered_each answer s old before progress [] all moves fresh answers = tt
answered_each answer s old before progress (Started t r ∷ events) all moves fresh answers =
    let event : Event = Started t r in
    let new : RunningChild = record { ticket = t; position = unwrap_or (next_run s progress) 0 } in
    let started : WasStarted old (before ++ event ∷ []) new =
    (r, started_is before t r (fresh_after old before t fresh.0), ap (started_with t) (sym (append_assoc old before (event ∷ []))) ∙ started_is (old ++ before) t r fresh.0) in (
      tt,
      answered_each answer s old (before ++ event ∷ []) (after_test s progress event) events
          (All-push (WasStarted old (before ++ event ∷ [])) progress.schedule.running new (all_more old before event progress.schedule.running all) started) moves.1
          (then_each HasFreshTicket old before event events fresh.1) (then_each (AnswersStart answer) old before event events answers.1),
    )
answered_each answer s old before progress (Ended t e ∷ events) all moves fresh answers =
    let event : Event = Ended t e in
    let found = found_in old before t progress.schedule.running all moves.0 in (
      holds answer old before t e found.0 found.1 found.2 answers.0,
      answered_each answer s old (before ++ event ∷ []) (after_test s progress event) events
          (all_left (WasStarted old (before ++ event ∷ [])) t progress.schedule.running (all_more old before event progress.schedule.running all)) moves.1
          (then_each HasFreshTicket old before event events fresh.1) (then_each (AnswersStart answer) old before event events answers.1),
    )
answered_each answer s old before progress (Gone t ∷ events) all moves fresh answers =
    let event : Event = Gone t in (
      tt,
      answered_each answer s old (before ++ event ∷ []) (after_test s progress event) events
          (all_left (WasStarted old (before ++ event ∷ [])) t progress.schedule.running (all_more old before event progress.schedule.running all)) moves.1
          (then_each HasFreshTicket old before event events fresh.1) (then_each (AnswersStart answer) old before event events answers.1),
    )

-- so each end of lawful runs whose tickets are fresh holds the answer to its own start
pub answered_tests : (answer : Request → Exit) (s : TestSetting) (old events : List Event) → LawfulMoves (test_workload s) empty_schedule (test_moves s empty_tests events) → EachAfter HasFreshTicket old events →
    EachAfter (AnswersStart answer) old events → Answered answer events
answered_tests answer s old events moves fresh answers =
    answered_each answer s old [] empty_tests events (All-nil (WasStarted old [])) moves (subst (λ (l : List Event). EachAfter HasFreshTicket l events) (sym (append-nil old)) fresh)
    (subst (λ (l : List Event). EachAfter (AnswersStart answer) l events) (sym (append-nil old)) answers)

module _ (answer : Request → Exit) (old events : List Event) (answers : EachAfter (AnswersStart answer) old events) where
  pub answers_started : (ticket : ℕ) (request : Request) → EachAfter (AnswersStart answer) old (events ++ Started ticket request ∷ [])
  unfolding EachAfter
  answers_started ticket request = EachAfter-append (AnswersStart answer) old events (Started ticket request ∷ []) answers (tt, tt)

  answers_gone : (ticket : ℕ) → EachAfter (AnswersStart answer) old (events ++ Gone ticket ∷ [])
  unfolding EachAfter
  answers_gone ticket = EachAfter-append (AnswersStart answer) old events (Gone ticket ∷ []) answers (tt, tt)

  pub answers_lost : (fault : WaitFault) → EachAfter (AnswersStart answer) old (events ++ end_event (Err fault) ∷ [])
  answers_lost (wait.NoMemory ticket) = answers_gone ticket
  answers_lost (wait.Lost ticket) = answers_gone ticket

  pub answers_ended : (journal : List Event) (told : Request → Exit) (ticket : ℕ) (exit : Exit) → journal ≡ old ++ events → told ≡ answer → IfSome (started_with ticket journal) (λ request. exit ≡ told request) →
      EachAfter (AnswersStart answer) old (events ++ Ended ticket exit ∷ [])
  unfolding EachAfter
  answers_ended journal told ticket exit same is answered = EachAfter-append (AnswersStart answer) old events (Ended ticket exit ∷ []) answers (
    subst (λ (f : Request → Exit). IfSome (started_with ticket (old ++ events)) (λ request. exit ≡ f request)) is
        (subst (λ (l : List Event). IfSome (started_with ticket l) (λ request. exit ≡ told request)) same answered),
    tt,
  )
