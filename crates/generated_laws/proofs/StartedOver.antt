-- What the children of a build were started over: the files below their own, all of which were made by then.
use Rattle.std.proofs.Common.{◌≡◌, ℕ, ◌<◌, true, List, [], ◌∷◌, ◌++◌, Option, Some, None, refl, sym, ◌∙◌}
use Rattle.std.specs.Prelude.{All, unwrap_or}
use Rattle.std.specs.Option.{option_and_then, option_map}
use Rattle.std.proofs.lemmas.List.Elements.{All-nil, All-push, All-append, All-cons, All-weaker}
use Rattle.std.proofs.lemmas.Option.{none-some}
use Rattle.base.specs.declared.graph.BuiltFile.{BuiltFile}
use Rattle.base.specs.declared.child.Request.{Request}
use Rattle.base.specs.declared.child.Exit.{Exit}
use Rattle.base.specs.declared.child.Event.{Event}
use Rattle.base.specs.declared.child.Event.TheVariants.{Started, Ended, Gone}
use Rattle.outside.specs.Records.{deps_at}
use Rattle.run_spec.specs.ChildJournal.{Work, Run, End, BuildProgress, empty_progress, has_all, artefact_so_far, next_position, files_below, request_at, run_of, others_of, end_of, after, after_all, progress_of, Lawful, Answered}
use Rattle.run_spec.proofs.Artefacts.{so_far_stays}
use Rattle.run_spec.proofs.BuiltLists.{has_all_more, built_more}
use Rattle.run_spec.proofs.Steps.{Steps, run_found, All-others, steps_of}
use Rattle.run_laws.proofs.JournalAnswers.{start_asked}

-- all that the file at a position depends on is made, and these are the files
abbrev pub IsStartedOver : Work → List End → ℕ → List BuiltFile → Type 0
IsStartedOver work ends position files = (has_all (artefact_so_far work ends) (deps_at work.graph position) ≡ true) × (files ≡ files_below work ends position)

-- it stays so as more children end
over_more : (work : Work) (ends more : List End) (position : ℕ) (files : List BuiltFile) → IsStartedOver work ends position files → IsStartedOver work (ends ++ more) position files
over_more work ends more position files is = (
  has_all_more (artefact_so_far work ends) (artefact_so_far work (ends ++ more)) (λ dep artefact. so_far_stays work ends more dep artefact) (deps_at work.graph position) is.0,
  is.1 ∙ sym (built_more work.graph (artefact_so_far work ends) (artefact_so_far work (ends ++ more)) (λ dep artefact. so_far_stays work ends more dep artefact) (deps_at work.graph position) is.0),
)

abbrev IsRunStarted : Work → List End → Run → Type 0
IsRunStarted work ends run = IsStartedOver work ends run.position run.below

abbrev pub IsEndStarted : Work → List End → End → Type 0
IsEndStarted work ends end = IsStartedOver work ends end.position end.below

record AreStarted (work : Work) (child_log : BuildProgress) : Type 0 where
  runs : All (IsRunStarted work child_log.ends) child_log.runs
  ends : All (IsEndStarted work child_log.ends) child_log.ends

module _ (answer : Request → Exit) (work : Work) (ordered : (position : ℕ) → All (λ dep. dep < position) (deps_at work.graph position)) where
  start_over : (child_log : BuildProgress) (request : Request) (next : Option ℕ) → next_position work child_log ≡ next → option_and_then (request_at work child_log.ends) next ≡ Some request →
      IsStartedOver work child_log.ends (unwrap_or next 0) (files_below work child_log.ends (unwrap_or next 0))
  start_over child_log request None e asks = absurd (none-some request asks)
  start_over child_log request (Some position) e asks = ((start_asked work ordered child_log position request e asks).over_all, refl)

  started_over : (child_log : BuildProgress) → AreStarted work child_log → (ticket : ℕ) (request : Request) → option_and_then (request_at work child_log.ends) (next_position work child_log) ≡ Some request → AreStarted work (after work child_log (Started ticket request))
  unfolding after
  started_over child_log is ticket request asks =
      let position : ℕ = unwrap_or (next_position work child_log) 0 in
      let run : Run = record { ticket = ticket; position = position; request = request; below = files_below work child_log.ends position } in
      record { runs = All-push (IsRunStarted work child_log.ends) child_log.runs run is.runs (start_over child_log request (next_position work child_log) refl asks); ends = is.ends }

  end_over : (child_log : BuildProgress) → AreStarted work child_log → (ticket : ℕ) (exit : Exit) (run : Option Run) → run_of ticket child_log.runs ≡ run → option_map (λ r. answer r.request) run ≡ Some exit
      → All (IsEndStarted work (child_log.ends ++ end_of run exit)) (end_of run exit)
  end_over child_log is ticket exit None e says = absurd (none-some exit says)
  end_over child_log is ticket exit (Some run) e says =
      let end : End = record { position = run.position; request = run.request; below = run.below; exit = exit } in
      All-cons (IsEndStarted work (child_log.ends ++ end ∷ [])) end [] (over_more work child_log.ends (end ∷ []) run.position run.below (run_found (IsRunStarted work child_log.ends) child_log.runs ticket run e is.runs))
      (All-nil (IsEndStarted work (child_log.ends ++ end ∷ [])))

  ended_over : (child_log : BuildProgress) → AreStarted work child_log → (ticket : ℕ) (exit : Exit) → option_map (λ r. answer r.request) (run_of ticket child_log.runs) ≡ Some exit → AreStarted work (after work child_log (Ended ticket exit))
  unfolding after
  ended_over child_log is ticket exit says =
      let more : List End = end_of (run_of ticket child_log.runs) exit in
      record {
        runs = All-weaker (IsRunStarted work child_log.ends) (IsRunStarted work (child_log.ends ++ more)) (λ run over. over_more work child_log.ends more run.position run.below over)
            (others_of ticket child_log.runs) (All-others (IsRunStarted work child_log.ends) child_log.runs ticket is.runs);
        ends = All-append (IsEndStarted work (child_log.ends ++ more)) child_log.ends more
            (All-weaker (IsEndStarted work child_log.ends) (IsEndStarted work (child_log.ends ++ more)) (λ end over. over_more work child_log.ends more end.position end.below over) child_log.ends is.ends)
            (end_over child_log is ticket exit (run_of ticket child_log.runs) refl says);
      }

  gone_over : (child_log : BuildProgress) → AreStarted work child_log → (ticket : ℕ) → AreStarted work (after work child_log (Gone ticket))
  unfolding after
  gone_over child_log is ticket = record { runs = All-others (IsRunStarted work child_log.ends) child_log.runs ticket is.runs; ends = is.ends }

  over_after : (child_log : BuildProgress) → AreStarted work child_log → (events : List Event) → Steps answer work child_log events → AreStarted work (after_all work child_log events)
  unfolding after_all Steps
  over_after child_log is [] steps = is
  over_after child_log is (Started ticket request ∷ events) steps = over_after (after work child_log (Started ticket request)) (started_over child_log is ticket request steps.0.least) events steps.1
  over_after child_log is (Ended ticket exit ∷ events) steps = over_after (after work child_log (Ended ticket exit)) (ended_over child_log is ticket exit steps.0) events steps.1
  over_after child_log is (Gone ticket ∷ events) steps = over_after (after work child_log (Gone ticket)) (gone_over child_log is ticket) events steps

  -- so it is of each child that has ended in a lawful journal
  pub ends_started : (events : List Event) → Lawful work events → Answered answer events → All (IsEndStarted work (progress_of work events).ends) (progress_of work events).ends
  ends_started events lawful answered =
      (over_after empty_progress (record { runs = All-nil (IsRunStarted work []); ends = All-nil (IsEndStarted work []) }) events (steps_of answer work events lawful answered)).ends
