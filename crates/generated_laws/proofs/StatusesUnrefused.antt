-- No file of a build is refused where the compiler answers all that a clean build asks with the code 0, and what is recorded is
-- what a clean build makes.
use Rattle.std.proofs.Common.{◌≡◌, ℕ, zero, suc, ◌<◌, ◌==◌, ◌&&◌, Bool, true, false, List, map, [], ◌∷◌, length, get_or, Option, Some, None, refl, sym, ap, ap₂, ◌∙◌, arith, inl, inr, is_some}
use Rattle.std.specs.Prelude.{All}
use Rattle.std.specs.List.{list_any}
use Rattle.std.proofs.lemmas.Bool.{cases_Bool, cond-true, cond-false, eq-eqb, and_from, and_left, or_from}
use Rattle.std.proofs.lemmas.List.{map_push}
use Rattle.std.proofs.lemmas.List.Folds.{list_any-append}
use Rattle.std.proofs.lemmas.Option.{none-some}
use Rattle.base.specs.declared.child.Request.{Request}
use Rattle.base.specs.declared.child.Exit.{Exit}
use Rattle.base.specs.declared.child.Event.{Event}
use Rattle.base.specs.Graphs.{IsGraph}
use Rattle.base.specs.PresentGraph.{below}
use Rattle.run_spec.specs.CleanBuild.{RecordsClean, clean_request}
use Rattle.run_spec.specs.ChildJournal.{Work, End, child_of_end, exit_at, output_at, or_else, artefact_so_far, progress_of, Lawful, Answered}
use Rattle.run_spec.specs.Statuses.{status_of, status_at, statuses_of, is_refused}
use Rattle.run_spec.specs.Settled.{IsAnswered}
use Rattle.run_spec.proofs.Artefacts.{deps_before, artefact_free}
use Rattle.run_spec.proofs.SettledBuild.{asked_settled, ended_parts}
use Rattle.run_laws.proofs.CleanSettled.{request_clean}
use Rattle.run_laws.proofs.JournalAnswers.{AreAnswered, answers_of, asked_within}
use Rattle.generated_laws.specs.Edits.{AcceptsAll}

-- a test that no position passes
pub none_of_below : {X : Type 0} (p : X → Bool) (f : ℕ → X) (n : ℕ) → ((k : ℕ) → k < n → p (f k) ≡ false) → list_any p (map f (below n)) ≡ false
unfolding below
none_of_below p f zero none = refl
none_of_below p f (suc n) none =
    ap (list_any p) (map_push f (below n) n) ∙ list_any-append p (map f (below n)) (f n ∷ [])
    ∙ or_from (list_any p (map f (below n))) (list_any p (f n ∷ [])) (none_of_below p f n (λ k lt. none k (omega arith))) (or_from (p (f n)) false (none n (omega arith)) refl)

-- all ends are good: what the first child of a file printed is its output
printed : (xs : List End) (at : ℕ) (exit : Exit) → All (λ end. end.exit.code ≡ 0) xs → exit_at xs at ≡ Some exit → (output : List ℕ) × (output_at (map child_of_end xs) at ≡ Some output)
unfolding exit_at output_at
printed [] at exit good is = absurd (none-some exit is)
printed (end ∷ xs) at exit good is = elim (cases_Bool (end.position == at)) [
  | inl here ↦
      let code : (end.exit.code == 0) ≡ true = eq-eqb end.exit.code 0 (good 0 end (omega arith)) in
      (end.exit.output, cond-true (end.position == at && end.exit.code == 0) (Some end.exit.output) (output_at (map child_of_end xs) at) (and_from (end.position == at) (end.exit.code == 0) here code))
  | inr other ↦
      let rest = printed xs at exit (λ k d l. good (suc k) d (omega arith)) (sym (cond-false (end.position == at) (Some end.exit) (exit_at xs at) other) ∙ is) in
      (rest.0, cond-false (end.position == at && end.exit.code == 0) (Some end.exit.output) (output_at (map child_of_end xs) at) (and_left (end.position == at) (end.exit.code == 0) other) ∙ rest.1)
]

module _ (answer : Request → Exit) (work : Work) (valid : IsGraph work.graph) (makes : AcceptsAll answer work.graph) (records : RecordsClean answer work.graph work.current) where
  module _ (events : List Event) (lawful : Lawful work events) (answered : Answered answer events) where
    abbrev ends : List End
    ends = (progress_of work events).ends

    all_answered : AreAnswered answer work (progress_of work events)
    all_answered = answers_of answer work (deps_before work.graph valid) events lawful answered

    -- each child was asked what a clean build asks for its file
    pub end_clean : All (λ end. clean_request answer work.graph end.position ≡ Some end.request) ends
    end_clean k d lt =
        let end : End = get_or ends k d in
        let is : IsAnswered answer work ends end = all_answered.ends k d lt in
        request_clean answer work.graph valid work.current records end.position end.request
        (asked_settled answer work ends (deps_before work.graph valid) all_answered.ends end.position end.request (asked_within work ends end.position end.request is.is) is.is)

    -- so each has ended well
    pub end_good : All (λ end. end.exit.code ≡ 0) ends
    end_good k d lt =
        let end : End = get_or ends k d in
        ap (λ (e : Exit). e.code) (all_answered.ends k d lt).answered ∙ makes end.position end.request (end_clean k d lt)

    status_is : (at : ℕ) → at < length work.graph → is_refused (status_at work ends at) ≡ false
    status_is at lt = from (exit_at ends at) refl
      where
        unended : (keep : Bool) (o : Option (List ℕ)) → is_refused (status_of keep None o) ≡ false
        unended true None = refl
        unended false None = refl
        unended keep (Some x) = refl

        from : (exit : Option Exit) → exit_at ends at ≡ exit → is_refused (status_at work ends at) ≡ false
        from None e = ap (λ (o : Option Exit). is_refused (status_of work.keep_going o (artefact_so_far work ends at))) e ∙ unended work.keep_going (artefact_so_far work ends at)
        from (Some exit) e =
            let parts = ended_parts answer work ends (deps_before work.graph valid) all_answered.ends ends all_answered.ends at (ap is_some e) in
            let output = printed ends at exit end_good e in
            let made : artefact_so_far work ends at ≡ Some output.0 =
            artefact_free work (deps_before work.graph valid) (map child_of_end ends) at lt parts.0 ∙ ap₂ or_else parts.1 output.1 in
            ap₂ (λ (o : Option Exit) (a : Option (List ℕ)). is_refused (status_of work.keep_going o a)) e made

    pub none_refused : list_any is_refused (statuses_of work events) ≡ false
    none_refused = none_of_below is_refused (status_at work ends) (length work.graph) status_is
