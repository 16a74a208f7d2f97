-- What the children of a build were asked and have answered, in a lawful journal whose ends are answers.
use Rattle.std.proofs.Common.{◌≡◌, ℕ, ◌<◌, List, [], ◌∷◌, ◌++◌, length, get_or, map, Option, Some, None, refl, sym, ap, ◌∙◌}
use Rattle.std.specs.Prelude.{All, slice_get, unwrap_or}
use Rattle.std.specs.Option.{option_and_then, option_map}
use Rattle.std.proofs.lemmas.List.Elements.{All-nil, All-push, All-append, All-cons, All-weaker}
use Rattle.std.proofs.lemmas.Option.{none-some, same_Some, slice_get_within}
use Rattle.base.specs.declared.graph.Entry.{Entry}
use Rattle.base.specs.declared.child.Request.{Request}
use Rattle.base.specs.declared.child.Exit.{Exit}
use Rattle.base.specs.declared.child.Event.{Event}
use Rattle.base.specs.declared.child.Event.TheVariants.{Started, Ended, Gone}
use Rattle.base.specs.Jobs.{compile_request}
use Rattle.outside.specs.Records.{deps_at}
use Rattle.run_spec.specs.ChildJournal.{Work, Run, End, BuildProgress, empty_progress, child_of_end, or_else, output_at, built_at, artefact_so_far, next_position, files_below, request_at, run_of, others_of, end_of, after, after_all, progress_of, Lawful, Answered}
use Rattle.run_spec.specs.Settled.{request_over, IsAsked, IsAnswered}
use Rattle.run_spec.proofs.Artefacts.{artefact_free}
use Rattle.run_spec.proofs.SettledBuild.{asked_more, is_answered_more}
use Rattle.run_spec.proofs.Steps.{Steps, run_found, All-others, steps_of}
use Rattle.run_laws.proofs.JournalProgress.{startable_parts, next_parts}

-- the request of a file is that over the artefacts so far of the files below it
pub request_is : (work : Work) (ends : List End) (position : ℕ) → request_at work ends position ≡ request_over work.graph position (built_at work.graph (artefact_so_far work ends) (deps_at work.graph position))
unfolding request_at
request_is work ends position = from (slice_get work.graph position) refl
  where
    from : (here : Option Entry) → slice_get work.graph position ≡ here
        → option_map (λ entry. compile_request entry (built_at work.graph (artefact_so_far work ends) entry.deps)) (slice_get work.graph position) ≡ request_over work.graph position (built_at work.graph (artefact_so_far work ends) (deps_at work.graph position))
    from None e = rw e refl
    from (Some entry) e = rw e refl

-- a file of which something is asked is one
pub asked_within : (work : Work) (ends : List End) (position : ℕ) (request : Request) → IsAsked work ends position request → position < length work.graph
asked_within work ends position request is = from (slice_get work.graph position) refl
  where
    from : (here : Option Entry) → slice_get work.graph position ≡ here → position < length work.graph
    from None e = absurd (none-some request (sym (ap (option_map (λ entry. compile_request entry (built_at work.graph (artefact_so_far work ends) (deps_at work.graph position)))) e) ∙ is.asked))
    from (Some entry) e = slice_get_within work.graph position entry e

none_from : (o p : Option (List ℕ)) → or_else o p ≡ None → o ≡ None
none_from None p none = refl
none_from (Some x) p none = absurd (none-some x (sym none))

-- a file that is started is asked for over all that it depends on, and no record of it is current over that
pub start_asked : (work : Work) → ((position : ℕ) → All (λ dep. dep < position) (deps_at work.graph position)) → (progress : BuildProgress) (position : ℕ) (request : Request) → next_position work progress ≡ Some position → request_at work progress.ends position ≡ Some request
    → IsAsked work progress.ends position request
start_asked work ordered progress position request next asks =
    let rank = next_parts work progress position next in
    let parts = startable_parts work progress position rank.1 in
    record {
      over_all = parts.2;
      asked = sym (request_is work progress.ends position) ∙ asks;
      stale = none_from (work.current position (built_at work.graph (artefact_so_far work progress.ends) (deps_at work.graph position))) (output_at (map child_of_end progress.ends) position)
          (sym (artefact_free work ordered (map child_of_end progress.ends) position rank.0 parts.2) ∙ parts.1);
    }

-- a child was started with the request of its file over the files below that were built
abbrev pub IsRunOver : Work → Run → Type 0
IsRunOver work run = request_over work.graph run.position run.below ≡ Some run.request

abbrev pub IsEndOver : Work → End → Type 0
IsEndOver work end = request_over work.graph end.position end.below ≡ Some end.request

-- each file that was started was asked for so, and each child that has ended has answered
pub record AreAnswered (answer : Request → Exit) (work : Work) (progress : BuildProgress) : Type 0 where
  pub taken : All (λ position. (request : Request) × IsAsked work progress.ends position request) progress.taken
  pub runs : All (λ run. IsAsked work progress.ends run.position run.request) progress.runs
  pub ends : All (IsAnswered answer work progress.ends) progress.ends
  pub runs_over : All (IsRunOver work) progress.runs
  pub ends_over : All (IsEndOver work) progress.ends

module _ (answer : Request → Exit) (work : Work) (ordered : (position : ℕ) → All (λ dep. dep < position) (deps_at work.graph position)) where
  -- more ends change none of it
  taken_more : (progress : BuildProgress) (more : List End) → AreAnswered answer work progress → All (λ position. (request : Request) × IsAsked work (progress.ends ++ more) position request) progress.taken
  taken_more progress more is k d lt = let it = is.taken k d lt in (it.0, asked_more work progress.ends more (get_or progress.taken k d) it.0 it.1)

  run_start : (progress : BuildProgress) (ticket : ℕ) (request : Request) (next : Option ℕ) → next_position work progress ≡ next → option_and_then (request_at work progress.ends) next ≡ Some request → IsAsked work progress.ends (unwrap_or next 0) request
  run_start progress ticket request None e asks = absurd (none-some request asks)
  run_start progress ticket request (Some position) e asks = start_asked work ordered progress position request e asks

  run_over : (progress : BuildProgress) (request : Request) (next : Option ℕ) → option_and_then (request_at work progress.ends) next ≡ Some request → request_over work.graph (unwrap_or next 0) (files_below work progress.ends (unwrap_or next 0)) ≡ Some request
  run_over progress request None asks = absurd (none-some request asks)
  run_over progress request (Some position) asks = sym (request_is work progress.ends position) ∙ asks

  started_answers : (progress : BuildProgress) → AreAnswered answer work progress → (ticket : ℕ) (request : Request) → option_and_then (request_at work progress.ends) (next_position work progress) ≡ Some request → AreAnswered answer work (after work progress (Started ticket request))
  unfolding after
  started_answers progress is ticket request asks =
      let position : ℕ = unwrap_or (next_position work progress) 0 in
      let new : IsAsked work progress.ends position request = run_start progress ticket request (next_position work progress) refl asks in
      let run : Run = record { ticket = ticket; position = position; request = request; below = files_below work progress.ends position } in
      record {
        taken = All-push (λ position. (r : Request) × IsAsked work progress.ends position r) progress.taken position is.taken (request, new);
        runs = All-push (λ run. IsAsked work progress.ends run.position run.request) progress.runs run is.runs new;
        ends = is.ends;
        runs_over = All-push (IsRunOver work) progress.runs run is.runs_over (run_over progress request (next_position work progress) asks);
        ends_over = is.ends_over;
      }

  -- the end of a child that was asked
  end_answers : (progress : BuildProgress) → AreAnswered answer work progress → (ticket : ℕ) (exit : Exit) (run : Option Run) → run_of ticket progress.runs ≡ run → option_map (λ r. answer r.request) run ≡ Some exit
      → All (IsAnswered answer work (progress.ends ++ end_of run exit)) (end_of run exit)
  end_answers progress is ticket exit None e says = absurd (none-some exit says)
  end_answers progress is ticket exit (Some run) e says =
      let end : End = record { position = run.position; request = run.request; below = run.below; exit = exit } in
      let asked : IsAsked work progress.ends run.position run.request = run_found (λ r. IsAsked work progress.ends r.position r.request) progress.runs ticket run e is.runs in
      All-cons (IsAnswered answer work (progress.ends ++ end ∷ [])) end [] (record { is = asked_more work progress.ends (end ∷ []) run.position run.request asked; answered = sym (same_Some (answer run.request) exit says) })
      (All-nil (IsAnswered answer work (progress.ends ++ end ∷ [])))

  end_over : (progress : BuildProgress) → AreAnswered answer work progress → (ticket : ℕ) (exit : Exit) (run : Option Run) → run_of ticket progress.runs ≡ run → option_map (λ r. answer r.request) run ≡ Some exit → All (IsEndOver work) (end_of run exit)
  end_over progress is ticket exit None e says = absurd (none-some exit says)
  end_over progress is ticket exit (Some run) e says =
      All-cons (IsEndOver work) (record { position = run.position; request = run.request; below = run.below; exit = exit }) [] (run_found (IsRunOver work) progress.runs ticket run e is.runs_over) (All-nil (IsEndOver work))

  ended_answers : (progress : BuildProgress) → AreAnswered answer work progress → (ticket : ℕ) (exit : Exit) → option_map (λ r. answer r.request) (run_of ticket progress.runs) ≡ Some exit → AreAnswered answer work (after work progress (Ended ticket exit))
  unfolding after
  ended_answers progress is ticket exit says =
      let more : List End = end_of (run_of ticket progress.runs) exit in
      record {
        taken = taken_more progress more is;
        runs = All-weaker (λ run. IsAsked work progress.ends run.position run.request) (λ run. IsAsked work (progress.ends ++ more) run.position run.request) (λ run asked. asked_more work progress.ends more run.position run.request asked)
            (others_of ticket progress.runs) (All-others (λ run. IsAsked work progress.ends run.position run.request) progress.runs ticket is.runs);
        ends = All-append (IsAnswered answer work (progress.ends ++ more)) progress.ends more
            (All-weaker (IsAnswered answer work progress.ends) (IsAnswered answer work (progress.ends ++ more)) (λ end answered. is_answered_more answer work progress.ends more end answered) progress.ends is.ends)
            (end_answers progress is ticket exit (run_of ticket progress.runs) refl says);
        runs_over = All-others (IsRunOver work) progress.runs ticket is.runs_over;
        ends_over = All-append (IsEndOver work) progress.ends more is.ends_over (end_over progress is ticket exit (run_of ticket progress.runs) refl says);
      }

  gone_answers : (progress : BuildProgress) → AreAnswered answer work progress → (ticket : ℕ) → AreAnswered answer work (after work progress (Gone ticket))
  unfolding after
  gone_answers progress is ticket = record {
    taken = is.taken;
    runs = All-others (λ run. IsAsked work progress.ends run.position run.request) progress.runs ticket is.runs;
    ends = is.ends;
    runs_over = All-others (IsRunOver work) progress.runs ticket is.runs_over;
    ends_over = is.ends_over;
  }

  answers_after : (progress : BuildProgress) → AreAnswered answer work progress → (events : List Event) → Steps answer work progress events → AreAnswered answer work (after_all work progress events)
  unfolding after_all Steps
  answers_after progress is [] steps = is
  answers_after progress is (Started ticket request ∷ events) steps = answers_after (after work progress (Started ticket request)) (started_answers progress is ticket request steps.0.least) events steps.1
  answers_after progress is (Ended ticket exit ∷ events) steps = answers_after (after work progress (Ended ticket exit)) (ended_answers progress is ticket exit steps.0) events steps.1
  answers_after progress is (Gone ticket ∷ events) steps = answers_after (after work progress (Gone ticket)) (gone_answers progress is ticket) events steps

  -- so it is of a lawful journal from the start
  pub answers_of : (events : List Event) → Lawful work events → Answered answer events → AreAnswered answer work (progress_of work events)
  answers_of events lawful answered =
      answers_after empty_progress (record {
        taken = All-nil (λ position. (request : Request) × IsAsked work [] position request);
        runs = All-nil (λ run. IsAsked work [] run.position run.request);
        ends = All-nil (IsAnswered answer work []);
        runs_over = All-nil (IsRunOver work);
        ends_over = All-nil (IsEndOver work);
      }) events (steps_of answer work events lawful answered)
