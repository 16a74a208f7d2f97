-- If tests ended by themselves, each run has ended, and its exit is the answer to its request.
use Rattle.std.proofs.Common.{◌≡◌, ℕ, ◌<◌, ◌==◌, ◌&&◌, ◌||◌, Bool, true, false, not, ◌⊎◌, cond, List, [], ◌∷◌, ◌++◌, length, Option, Some, None, refl, sym, ap, subst, ◌∙◌, arith, inl, inr}
use Rattle.std.specs.Prelude.{All, map, slice_get, suc, unwrap_or, is_none}
use Rattle.std.specs.Option.{option_map, option_and_then, option_or}
use Rattle.std.specs.List.{list_any}
use Rattle.std.proofs.lemmas.Bool.{cases_Bool, cond-true, cond-false, eqb-true, eq-eqb, and_parts, or_parts, or_cases, or_left, or_right, or_from, false≢true, true≢false}
use Rattle.std.proofs.lemmas.List.Elements.{All-nil, All-head, All-tail, All-push, All-append, All-weaker}
use Rattle.std.proofs.lemmas.List.Folds.{list_any-append}
use Rattle.std.proofs.lemmas.Option.{none-some, same_Some, slice_get_within}
use Rattle.base.specs.declared.child.Request.{Request}
use Rattle.base.specs.declared.child.Exit.{Exit}
use Rattle.base.specs.declared.child.Event.{Event}
use Rattle.base.specs.declared.child.Event.TheVariants.{Started, Ended, Gone}
use Rattle.outside.specs.Children.{started_with}
use Rattle.run_spec.specs.Moves.{RunningChild, EndedChild, has_ended_well, is_taken, is_startable, next_start, position_of, without_child, ended_child, after_move, LawfulMoves}
use Rattle.run_spec.specs.ChildJournal.{EachAfter, HasFreshTicket, HoldsAnswer, Answered, is_gone}
use Rattle.run_spec.proofs.Steps.{started_is}
use Rattle.run_laws.proofs.JournalProgress.{none_value, first_missing}
use Rattle.run_spec.specs.TestJournal.{TestSetting, TestExit, TestProgress, test_workload, test_request_at, next_run, passed_at, exits_of, after_test, after_tests, empty_tests, progress_of_tests, test_moves, AreTestsRequested, IsWholeTests}
use Rattle.testbench_runs.specs.BenchJobs.{bench_request}
use Rattle.testbench_runs.specs.declared.runs.TestRun.{TestRun}
use Rattle.testbench_runs.specs.declared.ends.RunEnd.{RunEnd}
use Rattle.testbench_runs.specs.Verdicts.{ended_run}
use Rattle.run_tests.specs.Results.{run_exit, run_end, run_ends, test_ends, steady_ends}
use Rattle.run_tests.proofs.Answering.{still_more, all_left}

-- the run at a position runs, or has ended
abbrev runs_at : List RunningChild → ℕ → Bool
runs_at running position = list_any (λ child. child.position == position) running

abbrev has_exit : List TestExit → ℕ → Bool
has_exit ends position = list_any (λ end. end.position == position) ends

-- a child runs that was started with the request of its run
abbrev IsUnderWay : TestSetting → List Event → RunningChild → Type 0
IsUnderWay setting before child = (request : Request) × (started_with child.ticket before ≡ Some request) × (test_request_at setting child.position ≡ Some request)

-- a run has ended with the answer to its request
abbrev pub IsAnswerTo : (Request → Exit) → TestSetting → TestExit → Type 0
IsAnswerTo answer setting end = (request : Request) × (test_request_at setting end.position ≡ Some request) × (end.exit ≡ answer request)

-- what holds after each event: no run is lost, and nothing is halted
record AreInStep (answer : Request → Exit) (setting : TestSetting) (before : List Event) (progress : TestProgress) : Type 0 where
  running : All (IsUnderWay setting before) progress.schedule.running
  ends : All (IsAnswerTo answer setting) progress.ends
  taken : All (λ position. (runs_at progress.schedule.running position || has_exit progress.ends position) ≡ true) progress.schedule.taken
  ended : All (λ end. has_exit progress.ends end.position ≡ true) progress.schedule.ended
  goes_on : progress.schedule.halted ≡ false

-- the ends of runs that each have an exit
ends_by_run : (exit_of : ℕ → Option Exit) (exit_by : TestRun → Exit) (runs : List TestRun) → ((k : ℕ) (run : TestRun) → slice_get runs k ≡ Some run → exit_of k ≡ Some (exit_by run)) → run_ends exit_of runs ≡ map (λ run. ended_run run (exit_by run)) runs
ends_by_run exit_of exit_by [] each = refl
ends_by_run exit_of exit_by (run ∷ runs) each =
    ap (λ (exit : Option Exit). run_end run exit ∷ run_ends (λ k. exit_of (suc k)) runs) (each 0 run refl)
    ∙ ap (λ (ends : List RunEnd). ended_run run (exit_by run) ∷ ends) (ends_by_run (λ k. exit_of (suc k)) exit_by runs (λ k other found. each (suc k) other found))

-- ## The child of a ticket

-- what holds of all running children holds of that of a ticket
found_child : (P : RunningChild → Type 0) (ticket : ℕ) (running : List RunningChild) → All P running → list_any (λ child. child.ticket == ticket) running ≡ true →
    (child : RunningChild) × (position_of ticket running ≡ Some child.position) × (child.ticket ≡ ticket) × P child
found_child P ticket [] all runs = absurd (false≢true runs)
found_child P ticket (child ∷ running) all runs = elim (cases_Bool (child.ticket == ticket)) [
  | inl here ↦ (child, cond-true (child.ticket == ticket) (Some child.position) (position_of ticket running) here, eqb-true child.ticket ticket here, All-head P child running all)
  | inr other ↦
      let rest = found_child P ticket running (All-tail P child running all) (rw other at runs) in
      (rest.0, cond-false (child.ticket == ticket) (Some child.position) (position_of ticket running) other ∙ rest.1, rest.2, rest.3)
]

-- a run that was running still runs, or is that of the ticket
runs_without : (ticket k : ℕ) (running : List RunningChild) → runs_at running k ≡ true → (runs_at (without_child ticket running) k ≡ true) ⊎ (position_of ticket running ≡ Some k)
runs_without ticket k [] runs = absurd (false≢true runs)
runs_without ticket k (child ∷ running) runs = elim (cases_Bool (child.ticket == ticket)) [
  | inl here ↦ elim (or_cases (child.position == k) (runs_at running k) runs) [
    | inl own ↦ inr (cond-true (child.ticket == ticket) (Some child.position) (position_of ticket running) here ∙ ap (λ (n : ℕ). Some n) (eqb-true child.position k own))
    | inr later ↦ inl (ap (λ (l : List RunningChild). runs_at l k) (cond-true (child.ticket == ticket) running (child ∷ without_child ticket running) here) ∙ later)
  ]
  | inr other ↦ elim (or_cases (child.position == k) (runs_at running k) runs) [
    | inl own ↦ inl (ap (λ (l : List RunningChild). runs_at l k) (cond-false (child.ticket == ticket) running (child ∷ without_child ticket running) other) ∙ or_left (child.position == k) (runs_at (without_child ticket running) k) own)
    | inr later ↦ elim (runs_without ticket k running later) [
      | inl still ↦ inl (ap (λ (l : List RunningChild). runs_at l k) (cond-false (child.ticket == ticket) running (child ∷ without_child ticket running) other) ∙ or_right (child.position == k) (runs_at (without_child ticket running) k) still)
      | inr is ↦ inr (cond-false (child.ticket == ticket) (Some child.position) (position_of ticket running) other ∙ is)
    ]
  ]
]

-- ## More children, and more ends

runs_more : (k : ℕ) (running more : List RunningChild) → runs_at running k ≡ true → runs_at (running ++ more) k ≡ true
runs_more k running more runs = list_any-append (λ child. child.position == k) running more ∙ or_left (runs_at running k) (runs_at more k) runs

exits_more : (k : ℕ) (ends more : List TestExit) → has_exit ends k ≡ true → has_exit (ends ++ more) k ≡ true
exits_more k ends more has = list_any-append (λ end. end.position == k) ends more ∙ or_left (has_exit ends k) (has_exit more k) has

exit_new : (k : ℕ) (ends : List TestExit) (rank : Option ℕ) (exit : Exit) → rank ≡ Some k → has_exit (ends ++ exits_of rank exit) k ≡ true
exit_new k ends rank exit is =
    list_any-append (λ end. end.position == k) ends (exits_of rank exit)
    ∙ or_right (has_exit ends k) (has_exit (exits_of rank exit) k) (ap (λ (o : Option ℕ). has_exit (exits_of o exit) k) is ∙ or_left (k == k) false (eq-eqb k k refl))

either_more : (k : ℕ) (running others : List RunningChild) (ends more : List TestExit) → (runs_at running k || has_exit ends k) ≡ true → (runs_at (running ++ others) k || has_exit (ends ++ more) k) ≡ true
either_more k running others ends more either = elim (or_cases (runs_at running k) (has_exit ends k) either) [
  | inl runs ↦ or_left (runs_at (running ++ others) k) (has_exit (ends ++ more) k) (runs_more k running others runs)
  | inr has ↦ or_right (runs_at (running ++ others) k) (has_exit (ends ++ more) k) (exits_more k ends more has)
]

module _ (answer : Request → Exit) (setting : TestSetting) (going : setting.plan.fail_fast ≡ false) where
  abbrev InStep : List Event → TestProgress → Type 0
  InStep before progress = AreInStep answer setting before progress

  more_under_way : (before : List Event) (event : Event) (running : List RunningChild) → All (IsUnderWay setting before) running → All (IsUnderWay setting (before ++ event ∷ [])) running
  more_under_way before event running all =
      All-weaker (IsUnderWay setting before) (IsUnderWay setting (before ++ event ∷ [])) (λ child was. (was.0, still_more before (event ∷ []) child.ticket was.0 was.1, was.2)) running all

  more_ended : (ends more : List TestExit) (ended : List EndedChild) → All (λ end. has_exit ends end.position ≡ true) ended → All (λ end. has_exit (ends ++ more) end.position ≡ true) ended
  more_ended ends more ended all = All-weaker (λ end. has_exit ends end.position ≡ true) (λ end. has_exit (ends ++ more) end.position ≡ true) (λ end has. exits_more end.position ends more has) ended all

  asked_next : (next : Option ℕ) (request : Request) → option_and_then (test_request_at setting) next ≡ Some request → test_request_at setting (unwrap_or next 0) ≡ Some request
  asked_next None request asks = absurd (none-some request asks)
  asked_next (Some position) request asks = asks

  -- after a start
  step_started : (before : List Event) (progress : TestProgress) → InStep before progress → (ticket : ℕ) (request : Request) → option_and_then (test_request_at setting) (next_run setting progress) ≡ Some request → started_with ticket before ≡ None →
      InStep (before ++ Started ticket request ∷ []) (after_test setting progress (Started ticket request))
  unfolding after_test after_move
  step_started before progress is ticket request asks fresh =
      let event : Event = Started ticket request in
      let child : RunningChild = record { ticket = ticket; position = unwrap_or (next_run setting progress) 0 } in
      let here : (runs_at (progress.schedule.running ++ child ∷ []) child.position || has_exit (progress.ends ++ []) child.position) ≡ true =
      or_left (runs_at (progress.schedule.running ++ child ∷ []) child.position) (has_exit (progress.ends ++ []) child.position)
      (list_any-append (λ c. c.position == child.position) progress.schedule.running (child ∷ [])
      ∙ or_right (runs_at progress.schedule.running child.position) (runs_at (child ∷ []) child.position) (or_left (child.position == child.position) false (eq-eqb child.position child.position refl))) in
      record {
        running = All-push (IsUnderWay setting (before ++ event ∷ [])) progress.schedule.running child (more_under_way before event progress.schedule.running is.running)
            (request, started_is before ticket request fresh, asked_next (next_run setting progress) request asks);
        ends = All-append (IsAnswerTo answer setting) progress.ends [] is.ends (All-nil (IsAnswerTo answer setting));
        taken = All-push (λ position. (runs_at (progress.schedule.running ++ child ∷ []) position || has_exit (progress.ends ++ []) position) ≡ true) progress.schedule.taken child.position
            (All-weaker (λ position. (runs_at progress.schedule.running position || has_exit progress.ends position) ≡ true) (λ position. (runs_at (progress.schedule.running ++ child ∷ []) position || has_exit (progress.ends ++ []) position) ≡ true)
            (λ position either. either_more position progress.schedule.running (child ∷ []) progress.ends [] either) progress.schedule.taken is.taken) here;
        ended = more_ended progress.ends [] progress.schedule.ended is.ended;
        goes_on = is.goes_on;
      }

  -- after an end
  step_ended : (before : List Event) (progress : TestProgress) → InStep before progress → (ticket : ℕ) (exit : Exit) → list_any (λ child. child.ticket == ticket) progress.schedule.running ≡ true → option_map answer (started_with ticket before) ≡ Some exit →
      InStep (before ++ Ended ticket exit ∷ []) (after_test setting progress (Ended ticket exit))
  unfolding after_test after_move
  step_ended before progress is ticket exit runs holds =
      let event : Event = Ended ticket exit in
      let running : List RunningChild = progress.schedule.running in
      let found = found_child (IsUnderWay setting before) ticket running is.running runs in
      let child : RunningChild = found.0 in
      let request : Request = found.3.0 in
      let started : started_with ticket before ≡ Some request = ap (λ (t : ℕ). started_with t before) (sym found.2) ∙ found.3.1 in
      let answers : exit ≡ answer request = same_Some exit (answer request) (sym holds ∙ ap (option_map answer) started) in
      let rank : Option ℕ = position_of ticket running in
      let more : List TestExit = exits_of rank exit in
      let ok : Bool = passed_at setting rank exit in
      record {
        running = more_under_way before event (without_child ticket running) (all_left (IsUnderWay setting before) ticket running is.running);
        ends = subst (λ (o : Option ℕ). All (IsAnswerTo answer setting) (progress.ends ++ exits_of o exit)) (sym found.1)
            (All-push (IsAnswerTo answer setting) progress.ends (record { position = child.position; exit = exit }) is.ends (request, found.3.2, answers));
        taken = All-weaker (λ position. (runs_at running position || has_exit progress.ends position) ≡ true) (λ position. (runs_at (without_child ticket running) position || has_exit (progress.ends ++ more) position) ≡ true)
            (λ position either. still position either) progress.schedule.taken is.taken;
        ended = subst (λ (o : Option ℕ). All (λ end. has_exit (progress.ends ++ more) end.position ≡ true) (progress.schedule.ended ++ ended_child o ok exit.output)) (sym found.1)
            (All-push (λ end. has_exit (progress.ends ++ more) end.position ≡ true) progress.schedule.ended (record { position = child.position; ok = ok; output = exit.output }) (more_ended progress.ends more progress.schedule.ended is.ended)
            (exit_new child.position progress.ends rank exit found.1));
        goes_on = or_from progress.schedule.halted (not (not setting.plan.fail_fast) && not ok) is.goes_on (ap (λ (b : Bool). not (not b) && not ok) going);
      }
    where
      still : (position : ℕ) → (runs_at progress.schedule.running position || has_exit progress.ends position) ≡ true →
          (runs_at (without_child ticket progress.schedule.running) position || has_exit (progress.ends ++ exits_of (position_of ticket progress.schedule.running) exit) position) ≡ true
      still position either = elim (or_cases (runs_at progress.schedule.running position) (has_exit progress.ends position) either) [
        | inl was ↦ elim (runs_without ticket position progress.schedule.running was) [
          | inl runs ↦ or_left (runs_at (without_child ticket progress.schedule.running) position) _ runs
          | inr own ↦ or_right (runs_at (without_child ticket progress.schedule.running) position) _ (exit_new position progress.ends (position_of ticket progress.schedule.running) exit own)
        ]
        | inr has ↦ or_right (runs_at (without_child ticket progress.schedule.running) position) _ (exits_more position progress.ends (exits_of (position_of ticket progress.schedule.running) exit) has)
      ]

  -- after all events, where none is lost
  in_step : (before : List Event) (progress : TestProgress) → InStep before progress → (events : List Event) → LawfulMoves (test_workload setting) progress.schedule (test_moves setting progress events) → AreTestsRequested setting progress events →
      EachAfter HasFreshTicket before events → EachAfter (HoldsAnswer answer) before events → list_any is_gone events ≡ false → (all : List Event) × InStep all (after_tests setting progress events)
  unfolding LawfulMoves test_moves AreTestsRequested EachAfter after_tests after_test after_move
  in_step before progress is [] moves requests fresh answers none = (before, is)
  in_step before progress is (Started ticket request ∷ events) moves requests fresh answers none =
      in_step (before ++ Started ticket request ∷ []) (after_test setting progress (Started ticket request)) (step_started before progress is ticket request requests.0 fresh.0) events moves.1 requests.1 fresh.1 answers.1 none
  in_step before progress is (Ended ticket exit ∷ events) moves requests fresh answers none =
      in_step (before ++ Ended ticket exit ∷ []) (after_test setting progress (Ended ticket exit)) (step_ended before progress is ticket exit moves.0 answers.0) events moves.1 requests.1 fresh.1 answers.1 none
  in_step before progress is (Gone ticket ∷ events) moves requests fresh answers none = absurd (true≢false none)

  at_first : InStep [] empty_tests
  at_first = record {
    running = All-nil (IsUnderWay setting []);
    ends = All-nil (IsAnswerTo answer setting);
    taken = All-nil (λ position. (runs_at [] position || has_exit [] position) ≡ true);
    ended = All-nil (λ end. has_exit [] end.position ≡ true);
    goes_on = refl;
  }

  -- ## The exits at the end

  no_exit : (k : ℕ) (ends : List TestExit) → has_exit ends k ≡ false → run_exit ends k ≡ None
  unfolding run_exit
  no_exit k [] none = refl
  no_exit k (end ∷ ends) none =
      let parts = or_parts (end.position == k) (has_exit ends k) none in
      ap (λ (o : Option Exit). option_or o (cond (end.position == k) (Some end.exit) None)) (no_exit k ends parts.1) ∙ cond-false (end.position == k) (Some end.exit) None parts.0

  -- the exit of a run that has ended is the answer to its request
  exit_is : (k : ℕ) (request : Request) → test_request_at setting k ≡ Some request → (ends : List TestExit) → All (IsAnswerTo answer setting) ends → has_exit ends k ≡ true → run_exit ends k ≡ Some (answer request)
  unfolding run_exit
  exit_is k request asks [] all has = absurd (false≢true has)
  exit_is k request asks (end ∷ ends) all has = elim (cases_Bool (has_exit ends k)) [
    | inl later ↦ ap (λ (o : Option Exit). option_or o (cond (end.position == k) (Some end.exit) None)) (exit_is k request asks ends (All-tail (IsAnswerTo answer setting) end ends all) later)
    | inr none ↦ elim (or_cases (end.position == k) (has_exit ends k) has) [
      | inl here ↦
          let own = All-head (IsAnswerTo answer setting) end ends all in
          let same : own.0 ≡ request = same_Some own.0 request (sym own.1 ∙ ap (test_request_at setting) (eqb-true end.position k here) ∙ asks) in
          ap (λ (o : Option Exit). option_or o (cond (end.position == k) (Some end.exit) None)) (no_exit k ends none)
          ∙ cond-true (end.position == k) (Some end.exit) None here ∙ ap (λ (e : Exit). Some e) (own.2 ∙ ap answer same)
      | inr later ↦ absurd (true≢false (sym later ∙ none))
    ]
  ]

  -- one that was made has an exit
  exit_of_ended : (k : ℕ) (ends : List TestExit) (ended : List EndedChild) → All (λ end. has_exit ends end.position ≡ true) ended → has_ended_well ended k ≡ true → has_exit ends k ≡ true
  unfolding has_ended_well
  exit_of_ended k ends [] all well = absurd (false≢true well)
  exit_of_ended k ends (end ∷ ended) all well = elim (or_cases (end.position == k && end.ok) (has_ended_well ended k) well) [
    | inl here ↦ subst (λ (n : ℕ). has_exit ends n ≡ true) (eqb-true end.position k (and_parts (end.position == k) end.ok here).0) (All-head (λ e. has_exit ends e.position ≡ true) end ended all)
    | inr later ↦ exit_of_ended k ends ended (All-tail (λ e. has_exit ends e.position ≡ true) end ended all) later
  ]

  -- and so has one that was taken, where none runs any more
  exit_of_taken : (k : ℕ) (running : List RunningChild) → running ≡ [] → (ends : List TestExit) (taken : List ℕ) → All (λ position. (runs_at running position || has_exit ends position) ≡ true) taken →
      list_any (λ other. other == k) taken ≡ true → has_exit ends k ≡ true
  exit_of_taken k running idle ends [] all held = absurd (false≢true held)
  exit_of_taken k running idle ends (position ∷ taken) all held = elim (or_cases (position == k) (list_any (λ other. other == k) taken) held) [
    | inl here ↦
        subst (λ (n : ℕ). has_exit ends n ≡ true) (eqb-true position k here)
        (subst (λ (l : List RunningChild). (runs_at l position || has_exit ends position) ≡ true) idle (All-head (λ n. (runs_at running n || has_exit ends n) ≡ true) position taken all))
    | inr later ↦ exit_of_taken k running idle ends taken (All-tail (λ n. (runs_at running n || has_exit ends n) ≡ true) position taken all) later
  ]

  taken_or_made : (taken made : Bool) → (not taken && not made && true) ≡ false → (taken ≡ true) ⊎ (made ≡ true)
  taken_or_made true made closed = inl refl
  taken_or_made false true closed = inr refl
  taken_or_made false false closed = absurd (true≢false closed)

  module _ (events : List Event) (whole : IsWholeTests setting events) (answered : Answered answer events) where
    abbrev progress : TestProgress
    progress = progress_of_tests setting events

    at_end : (all : List Event) × InStep all progress
    at_end = in_step [] empty_tests at_first events whole.lawful.moves whole.lawful.requests whole.lawful.tickets answered whole.none_lost

    nothing_left : next_start (test_workload setting) progress.schedule ≡ None
    nothing_left = elim (or_cases (is_none (next_start (test_workload setting) progress.schedule)) progress.schedule.halted whole.finished.over) [
      | inl none ↦ none_value (next_start (test_workload setting) progress.schedule) none
      | inr halted ↦ absurd (true≢false (sym halted ∙ at_end.1.goes_on))
    ]

    closed : (k : ℕ) → k < length setting.plan.runs → is_startable (test_workload setting) progress.schedule k ≡ false
    unfolding next_start
    closed k lt = first_missing (is_startable (test_workload setting) progress.schedule) 0 (length setting.plan.runs) nothing_left k (omega arith) (omega (arith, lt))

    all_ended : (k : ℕ) → k < length setting.plan.runs → has_exit progress.ends k ≡ true
    unfolding is_startable
    all_ended k lt = elim (taken_or_made (is_taken progress.schedule k) (has_ended_well progress.schedule.ended k) (closed k lt)) [
      | inl taken ↦ exit_of_taken k progress.schedule.running whole.finished.idle progress.ends progress.schedule.taken at_end.1.taken taken
      | inr made ↦ exit_of_ended k progress.ends progress.schedule.ended at_end.1.ended made
    ]

    -- the exit of each run is the answer to its request
    pub exits : (k : ℕ) (request : Request) → k < length setting.plan.runs → test_request_at setting k ≡ Some request → run_exit progress.ends k ≡ Some (answer request)
    exits k request lt asks = exit_is k request asks progress.ends at_end.1.ends (all_ended k lt)

    -- so the ends of the runs depend neither on their order in time nor on how many ran at once
    pub ends_steady : test_ends setting events ≡ steady_ends answer setting.plan setting.built
    ends_steady =
        ends_by_run (run_exit progress.ends) (λ run. answer (bench_request run setting.plan.simulator setting.built)) setting.plan.runs
        (λ k run found. exits k (bench_request run setting.plan.simulator setting.built) (slice_get_within setting.plan.runs k run found) (ap (option_map (λ r. bench_request r setting.plan.simulator setting.built)) found))
