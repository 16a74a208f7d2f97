-- A journal of a build and then of tests: which events are compilers', and which are tests'.
use Rattle.std.proofs.Common.{◌≡◌, ℕ, Bool, true, false, not, eqb, List, [], ◌∷◌, ◌++◌, Option, Some, None, inl, inr, refl, sym, ap, subst, ◌∙◌}
use Rattle.std.specs.Prelude.{All, filter, slice_get, unwrap_or}
use Rattle.std.specs.Option.{option_map, option_and_then}
use Rattle.std.specs.List.{list_any}
use Rattle.std.proofs.lemmas.Bool.{cond-true, cond-false, cases_Bool, eqb-true, false≢true}
use Rattle.std.proofs.lemmas.List.{append_assoc, append-nil}
use Rattle.std.proofs.lemmas.List.Elements.{All-nil, All-head, All-tail, All-cons, All-push, All-weaker, filter-append}
use Rattle.std.proofs.lemmas.Option.{none-some}
use Rattle.base.specs.declared.graph.BuiltFile.{BuiltFile}
use Rattle.base.specs.declared.child.Request.{Request}
use Rattle.base.specs.declared.child.Event.{Event}
use Rattle.base.specs.declared.child.Event.TheVariants.{Started, Ended, Gone}
use Rattle.outside.specs.Children.{started_with}
use Rattle.run_spec.specs.Moves.{SchedulerState, RunningChild, after_move, LawfulMoves}
use Rattle.run_spec.specs.ChildJournal.{Work, Run, BuildProgress, empty_progress, workload_of, schedule_of, after, moves_after, EachAfter, HasFreshTicket, Lawful}
use Rattle.run_spec.specs.JournalParts.{is_test, is_test_event, compile_part, test_part}
use Rattle.run_spec.proofs.Journal.{schedule_after}
use Rattle.run_spec.proofs.Parts.{build_parts}
use Rattle.run_spec.proofs.Steps.{AreStarted, started_all, ended_all, gone_all, run_of_running, run_found, All-others, started_is}
use Rattle.run_tests.proofs.Answering.{still_more, all_left}
use Rattle.testbench_runs.specs.declared.runs.TestRun.{TestRun}
use Rattle.testbench_runs.specs.BenchJobs.{bench_request}
use Rattle.run_spec.specs.TestJournal.{TestSetting, TestProgress, test_workload, test_moves, after_test, empty_tests, next_run, test_request_at, AreTestsRequested, LawfulTests}

-- an event's child was started before with a request of a test, or of a compiler
abbrev pub IsPart : (test : Bool) → List Event → Event → Type 0
IsPart test before (Started ticket request) = is_test (Some request) ≡ test
IsPart test before (Ended ticket exit) = (request : Request) × (started_with ticket before ≡ Some request) × (is_test (Some request) ≡ test)
IsPart test before (Gone ticket) = (request : Request) × (started_with ticket before ≡ Some request) × (is_test (Some request) ≡ test)

one_in : (test : Bool) (before more : List Event) (event : Event) → IsPart test before event → is_test_event (before ++ more) event ≡ test
one_in test before more (Started ticket request) is = is
one_in test before more (Ended ticket exit) is = ap is_test (still_more before more ticket is.0 is.1) ∙ is.2
one_in test before more (Gone ticket) is = ap is_test (still_more before more ticket is.0 is.1) ∙ is.2

-- in a longer journal the events are still of that kind
all_in : (test : Bool) (before events more : List Event) → EachAfter (IsPart test) before events → All (λ event. is_test_event (before ++ (events ++ more)) event ≡ test) events
unfolding EachAfter
all_in test before [] more each = All-nil (λ event. is_test_event (before ++ more) event ≡ test)
all_in test before (event ∷ events) more each =
    let journal : List Event = before ++ (event ∷ (events ++ more)) in
    All-cons (λ other. is_test_event journal other ≡ test) event events (one_in test before (event ∷ (events ++ more)) event each.0)
    (subst (λ (j : List Event). All (λ other. is_test_event j other ≡ test) events) (append_assoc before (event ∷ []) (events ++ more)) (all_in test (before ++ event ∷ []) events more each.1))

-- a filter that all pass, or none
all_pass : (test : Event → Bool) (events : List Event) → All (λ event. test event ≡ true) events → filter test events ≡ events
all_pass test [] all = refl
all_pass test (event ∷ events) all =
    cond-true (test event) (event ∷ filter test events) (filter test events) (All-head (λ e. test e ≡ true) event events all)
    ∙ ap (λ (l : List Event). event ∷ l) (all_pass test events (All-tail (λ e. test e ≡ true) event events all))

none_pass : (test : Event → Bool) (events : List Event) → All (λ event. test event ≡ false) events → filter test events ≡ []
none_pass test [] all = refl
none_pass test (event ∷ events) all =
    cond-false (test event) (event ∷ filter test events) (filter test events) (All-head (λ e. test e ≡ false) event events all)
    ∙ none_pass test events (All-tail (λ e. test e ≡ false) event events all)

-- where none passes each one fails
each_fails : (test : Event → Bool) (events : List Event) → filter test events ≡ [] → All (λ event. test event ≡ false) events
each_fails test [] none = All-nil (λ event. test event ≡ false)
each_fails test (event ∷ events) none =
    elim (cases_Bool (test event)) [
      | inl t ↦ absurd (not_empty event (filter test events) (sym (cond-true (test event) (event ∷ filter test events) (filter test events) t) ∙ none))
      | inr f ↦ All-cons (λ e. test e ≡ false) event events f (each_fails test events (sym (cond-false (test event) (event ∷ filter test events) (filter test events) f) ∙ none))
    ] where
      not_empty : (y : Event) (ys : List Event) → y ∷ ys ≡ [] → ⊥
      not_empty y ys e = cc

-- compilers alone run in a build
abbrev IsPlain : Run → Type 0
IsPlain run = is_test (Some run.request) ≡ false

ended_build : (before : List Event) (b : BuildProgress) (ticket : ℕ) → AreStarted before b.runs → All IsPlain b.runs → list_any (λ child. eqb child.ticket ticket) (schedule_of b).running ≡ true →
    (request : Request) × (started_with ticket before ≡ Some request) × (is_test (Some request) ≡ false)
ended_build before b ticket all plain runs =
    let found = run_of_running ticket b.runs runs in
    let started : started_with found.0.ticket before ≡ Some found.0.request = run_found (λ run. started_with run.ticket before ≡ Some run.request) b.runs ticket found.0 found.1 all in
    (found.0.request, subst (λ (t : ℕ). started_with t before ≡ Some found.0.request) found.2 started, run_found IsPlain b.runs ticket found.0 found.1 plain)

each_build : (s : Work) (journal before : List Event) (b : BuildProgress) (events : List Event) → AreStarted before b.runs → All IsPlain b.runs → All (λ event. is_test_event journal event ≡ false) events →
    LawfulMoves (workload_of s) (schedule_of b) (moves_after s b events) → EachAfter HasFreshTicket before events → EachAfter (IsPart false) before events
unfolding LawfulMoves EachAfter moves_after after
each_build s journal before b [] all plain none moves tickets = tt
each_build s journal before b (Started t r ∷ events) all plain none moves tickets =
    let event : Event = Started t r in
    let here : is_test (Some r) ≡ false = All-head (λ e. is_test_event journal e ≡ false) event events none in
    let progress : BuildProgress = after s b event in (
      here,
      each_build s journal (before ++ event ∷ []) progress events (started_all s before b t r all tickets.0)
          (All-push IsPlain b.runs _ plain here) (All-tail (λ e. is_test_event journal e ≡ false) event events none)
          (subst (λ (schedule : SchedulerState). LawfulMoves (workload_of s) schedule (moves_after s progress events)) (sym (schedule_after s b event)) moves.1) tickets.1,
    )
each_build s journal before b (Ended t x ∷ events) all plain none moves tickets =
    let event : Event = Ended t x in
    let progress : BuildProgress = after s b event in (
      ended_build before b t all plain moves.0,
      each_build s journal (before ++ event ∷ []) progress events (ended_all s before b t x all)
          (All-others IsPlain b.runs t plain) (All-tail (λ e. is_test_event journal e ≡ false) event events none)
          (subst (λ (schedule : SchedulerState). LawfulMoves (workload_of s) schedule (moves_after s progress events)) (sym (schedule_after s b event)) moves.1) tickets.1,
    )
each_build s journal before b (Gone t ∷ events) all plain none moves tickets =
    let event : Event = Gone t in
    let progress : BuildProgress = after s b event in (
      ended_build before b t all plain moves.0,
      each_build s journal (before ++ event ∷ []) progress events (gone_all s before b t all)
          (All-others IsPlain b.runs t plain) (All-tail (λ e. is_test_event journal e ≡ false) event events none)
          (subst (λ (schedule : SchedulerState). LawfulMoves (workload_of s) schedule (moves_after s progress events)) (sym (schedule_after s b event)) moves.1) tickets.1,
    )

of_build : (s : Work) (events : List Event) → Lawful s events → EachAfter (IsPart false) [] events
of_build s events lawful =
    each_build s events [] empty_progress events (All-nil (λ run. started_with run.ticket [] ≡ Some run.request)) (All-nil IsPlain) (each_fails (is_test_event events) events (build_parts s events lawful).1) lawful.moves lawful.tickets

-- tests alone run after it
abbrev IsTestChild : List Event → RunningChild → Type 0
IsTestChild before child = (request : Request) × (started_with child.ticket before ≡ Some request) × (is_test (Some request) ≡ true)

one_more : (before : List Event) (event : Event) (child : RunningChild) → IsTestChild before child → IsTestChild (before ++ event ∷ []) child
one_more before event child is = (is.0, still_more before (event ∷ []) child.ticket is.0 is.1, is.2)

all_more : (before : List Event) (event : Event) (running : List RunningChild) → All (IsTestChild before) running → All (IsTestChild (before ++ event ∷ [])) running
all_more before event running all = All-weaker (IsTestChild before) (IsTestChild (before ++ event ∷ [])) (λ child is. one_more before event child is) running all

ended_test : (before : List Event) (ticket : ℕ) (running : List RunningChild) → All (IsTestChild before) running → list_any (λ child. eqb child.ticket ticket) running ≡ true →
    (request : Request) × (started_with ticket before ≡ Some request) × (is_test (Some request) ≡ true)
ended_test before ticket [] all h = absurd (false≢true h)
ended_test before ticket (child ∷ running) all h =
    elim (cases_Bool (eqb child.ticket ticket)) [
      | inl t ↦
          let is = All-head (IsTestChild before) child running all in
          (is.0, subst (λ (n : ℕ). started_with n before ≡ Some is.0) (eqb-true child.ticket ticket t) is.1, is.2)
      | inr f ↦ ended_test before ticket running (All-tail (IsTestChild before) child running all) (rw f at h)
    ]

-- a simulator is started with a path for results
asked_from : (simulator : List (List ℕ)) (built : List BuiltFile) (run : Option TestRun) (r : Request) → option_map (λ run. bench_request run simulator built) run ≡ Some r → is_test (Some r) ≡ true
asked_from simulator built None r h = absurd (none-some r h)
asked_from simulator built (Some run) r h = ap is_test (sym h)

asked : (s : TestSetting) (next : Option ℕ) (r : Request) → option_and_then (test_request_at s) next ≡ Some r → is_test (Some r) ≡ true
asked s None r h = absurd (none-some r h)
asked s (Some position) r h = asked_from s.plan.simulator s.built (slice_get s.plan.runs position) r h

each_test : (s : TestSetting) (before : List Event) (progress : TestProgress) (events : List Event) → All (IsTestChild before) progress.schedule.running → LawfulMoves (test_workload s) progress.schedule (test_moves s progress events) →
    AreTestsRequested s progress events → EachAfter HasFreshTicket before events → EachAfter (IsPart true) before events
unfolding LawfulMoves test_moves AreTestsRequested EachAfter after_test after_move
each_test s before progress [] all moves requests fresh = tt
each_test s before progress (Started t r ∷ events) all moves requests fresh =
    let event : Event = Started t r in
    let test : is_test (Some r) ≡ true = asked s (next_run s progress) r requests.0 in
    let new : RunningChild = record { ticket = t; position = unwrap_or (next_run s progress) 0 } in (
      test,
      each_test s (before ++ event ∷ []) (after_test s progress event) events
          (All-push (IsTestChild (before ++ event ∷ [])) progress.schedule.running new (all_more before event progress.schedule.running all) (r, started_is before t r fresh.0, test)) moves.1 requests.1 fresh.1,
    )
each_test s before progress (Ended t x ∷ events) all moves requests fresh =
    let event : Event = Ended t x in (
      ended_test before t progress.schedule.running all moves.0,
      each_test s (before ++ event ∷ []) (after_test s progress event) events
          (all_left (IsTestChild (before ++ event ∷ [])) t progress.schedule.running (all_more before event progress.schedule.running all)) moves.1 requests.1 fresh.1,
    )
each_test s before progress (Gone t ∷ events) all moves requests fresh =
    let event : Event = Gone t in (
      ended_test before t progress.schedule.running all moves.0,
      each_test s (before ++ event ∷ []) (after_test s progress event) events
          (all_left (IsTestChild (before ++ event ∷ [])) t progress.schedule.running (all_more before event progress.schedule.running all)) moves.1 requests.1 fresh.1,
    )

-- of a build and then of tests whose tickets are fresh after it, the parts are both
pub both_parts : (w : Work) (s : TestSetting) (compiled tests : List Event) → Lawful w compiled → LawfulTests s tests → EachAfter HasFreshTicket compiled tests →
    (compile_part (compiled ++ tests) ≡ compiled) × (test_part (compiled ++ tests) ≡ tests)
both_parts w s compiled tests built tested fresh =
    let journal : List Event = compiled ++ tests in
    let first : All (λ event. is_test_event journal event ≡ false) compiled = all_in false [] compiled tests (of_build w compiled built) in
    let each : EachAfter (IsPart true) compiled tests = each_test s compiled empty_tests tests (All-nil (IsTestChild compiled)) tested.moves tested.requests fresh in
    let second : All (λ event. is_test_event journal event ≡ true) tests =
    subst (λ (l : List Event). All (λ event. is_test_event (compiled ++ l) event ≡ true) tests) (append-nil tests) (all_in true compiled tests [] each) in
    let kept : All (λ event. not (is_test_event journal event) ≡ true) compiled = All-weaker (λ event. is_test_event journal event ≡ false) (λ event. not (is_test_event journal event) ≡ true) (λ event is. ap not is) compiled first in
    let dropped : All (λ event. not (is_test_event journal event) ≡ false) tests = All-weaker (λ event. is_test_event journal event ≡ true) (λ event. not (is_test_event journal event) ≡ false) (λ event is. ap not is) tests second in (
      filter-append (λ event. not (is_test_event journal event)) compiled tests
          ∙ ap (λ (l : List Event). l ++ filter (λ event. not (is_test_event journal event)) tests) (all_pass (λ event. not (is_test_event journal event)) compiled kept)
          ∙ ap (λ (l : List Event). compiled ++ l) (none_pass (λ event. not (is_test_event journal event)) tests dropped) ∙ append-nil compiled,
      filter-append (is_test_event journal) compiled tests
          ∙ ap (λ (l : List Event). l ++ filter (is_test_event journal) tests) (none_pass (is_test_event journal) compiled first) ∙ all_pass (is_test_event journal) tests second,
    )
