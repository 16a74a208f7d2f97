-- What a build commits are true records.
use Rattle.std.proofs.Common.{◌≡◌, ◌<◌, eqb, List, [], ◌∷◌, Option, Some, None, refl, sym, ap, subst, ◌∙◌, inl, inr}
use Rattle.std.specs.Prelude.{All, slice_get}
use Rattle.std.specs.Option.{option_map}
use Rattle.std.proofs.lemmas.Bool.{cases_Bool, cond-true, cond-false, eqb-true}
use Rattle.std.proofs.lemmas.Option.{none-some, same_Some}
use Rattle.std.proofs.lemmas.List.Concat.{flat_map-cons}
use Rattle.std.proofs.lemmas.List.Elements.{All-nil, All-cons, All-head, All-tail, All-append}
use Rattle.base.specs.declared.graph.Entry.{Entry}
use Rattle.base.specs.declared.child.Request.{Request}
use Rattle.base.specs.declared.child.Exit.{Exit}
use Rattle.base.specs.declared.child.Event.{Event}
use Rattle.base.specs.Graphs.{IsGraph}
use Rattle.base.specs.Jobs.{compile_request}
use Rattle.outside.specs.Records.{Asked, request_of}
use Rattle.run_spec.specs.ChildJournal.{Work, End, BuildProgress, Lawful, Answered, progress_of}
use Rattle.run_spec.specs.Settled.{request_over, IsAnswered}
use Rattle.run_spec.specs.Commits.{asked_over, record_at, commit_of, commits_of, commits}
use Rattle.run_spec.specs.Faithful.{IsTrueRecord}
use Rattle.run_spec.proofs.Artefacts.{deps_before}
use Rattle.run_spec.proofs.RecordNames.{asked_is}
use Rattle.run_laws.proofs.JournalAnswers.{AreAnswered, IsEndOver, answers_of}

-- the request of the inputs that a child's file had over the files below is the request that the child was started with
request_asked : (work : Work) (end : End) → IsEndOver work end → request_of (asked_over work.graph end.position end.below) ≡ end.request
request_asked work end over = from (slice_get work.graph end.position) refl
  where
    from : (here : Option Entry) → slice_get work.graph end.position ≡ here → request_of (asked_over work.graph end.position end.below) ≡ end.request
    from None none = absurd (none-some end.request (sym (ap (option_map (λ (entry : Entry). compile_request entry end.below)) none) ∙ over))
    from (Some entry) found =
        ap request_of (asked_is work.graph end.position entry found end.below)
        ∙ same_Some (compile_request entry end.below) end.request (sym (ap (option_map (λ (entry : Entry). compile_request entry end.below)) found) ∙ over)

module _ (answer : Request → Exit) (work : Work) where
  -- what is committed of one child
  commit_true : (ends : List End) (end : End) → IsAnswered answer work ends end → IsEndOver work end → All (IsTrueRecord answer) (commit_of work.graph end)
  commit_true ends end is over =
      elim (cases_Bool (eqb end.exit.code 0)) [
        | inl good ↦
            let exit : answer (request_of (asked_over work.graph end.position end.below)) ≡ end.exit = ap answer (request_asked work end over) ∙ sym is.answered in
            let true_one : IsTrueRecord answer (record_at work.graph end.position end.below end.exit.output) =
            record { code = ap (λ (e : Exit). e.code) exit ∙ eqb-true end.exit.code 0 good; output = ap (λ (e : Exit). e.output) exit } in
            subst (All (IsTrueRecord answer)) (sym (cond-true (eqb end.exit.code 0) (record_at work.graph end.position end.below end.exit.output ∷ []) [] good))
            (All-cons (IsTrueRecord answer) (record_at work.graph end.position end.below end.exit.output) [] true_one (All-nil (IsTrueRecord answer)))
        | inr bad ↦ subst (All (IsTrueRecord answer)) (sym (cond-false (eqb end.exit.code 0) (record_at work.graph end.position end.below end.exit.output ∷ []) [] bad)) (All-nil (IsTrueRecord answer))
      ]

  all_true : (ends xs : List End) → All (IsAnswered answer work ends) xs → All (IsEndOver work) xs → All (IsTrueRecord answer) (commits_of work.graph xs)
  all_true ends [] all over = All-nil (IsTrueRecord answer)
  all_true ends (end ∷ xs) all over =
      subst (All (IsTrueRecord answer)) (sym (flat_map-cons (commit_of work.graph) end xs))
      (All-append (IsTrueRecord answer) (commit_of work.graph end) (commits_of work.graph xs) (commit_true ends end (All-head (IsAnswered answer work ends) end xs all) (All-head (IsEndOver work) end xs over))
      (all_true ends xs (All-tail (IsAnswered answer work ends) end xs all) (All-tail (IsEndOver work) end xs over)))

  pub commits_true : IsGraph work.graph → (events : List Event) → Lawful work events → Answered answer events → All (IsTrueRecord answer) (commits work events)
  commits_true graph events lawful answered =
      let progress : BuildProgress = progress_of work events in
      let is : AreAnswered answer work progress = answers_of answer work (deps_before work.graph graph) events lawful answered in
      all_true progress.ends progress.ends is.ends is.ends_over
