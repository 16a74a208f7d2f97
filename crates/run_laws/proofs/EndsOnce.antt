-- Of each file at most one child runs or has ended.
use Rattle.std.proofs.Common.{◌≡◌, ℕ, ◌+◌, ◌≤◌, Bool, true, false, eqb, cond, List, [], ◌∷◌, ◌++◌, Option, Some, None, refl, sym, ap, subst, ◌∙◌, arith, inl, inr}
use Rattle.std.specs.Prelude.{All, unwrap_or}
use Rattle.std.specs.Option.{option_and_then, option_map}
use Rattle.std.proofs.lemmas.Bool.{cases_Bool, eqb-true, cond-true, cond-false, both_ways}
use Rattle.std.proofs.lemmas.List.Elements.{All-head, All-tail}
use Rattle.std.proofs.lemmas.Option.{none-some, same_Some}
use Rattle.base.specs.declared.child.Request.{Request}
use Rattle.base.specs.declared.child.Exit.{Exit}
use Rattle.base.specs.declared.child.Event.{Event}
use Rattle.base.specs.declared.child.Event.TheVariants.{Started, Ended, Gone}
use Rattle.run_spec.specs.ChildJournal.{Work, Run, End, BuildProgress, empty_progress, next_position, files_below, request_at, run_of, others_of, end_of, after, after_all, progress_of, Lawful, Answered}
use Rattle.run_spec.proofs.Steps.{Steps, steps_of}
use Rattle.run_laws.proofs.JournalProgress.{startable_parts, next_parts}
use Rattle.run_laws.proofs.JournalKeeps.{was_taken, IsOrderly, started_orderly, ended_orderly, gone_orderly, orderly_at_first, ended_run}

-- 1 for a file's own child
abbrev own : Bool → ℕ
own b = cond {A = ℕ} b 1 0

-- how many of the running children, and of the ended ones, are of the file at a position
abbrev pub count_runs : ℕ → List Run → ℕ
count_runs k [] = 0
count_runs k (run ∷ runs) = own (eqb run.position k) + count_runs k runs

abbrev pub count_ends : ℕ → List End → ℕ
count_ends k [] = 0
count_ends k (end ∷ ends) = own (eqb end.position k) + count_ends k ends

count_runs-push : (k : ℕ) (runs : List Run) (run : Run) → count_runs k (runs ++ run ∷ []) ≡ count_runs k runs + own (eqb run.position k)
count_runs-push k [] run = omega arith
count_runs-push k (first ∷ runs) run = omega (arith, count_runs-push k runs run)

count_ends-append : (k : ℕ) (xs ys : List End) → count_ends k (xs ++ ys) ≡ count_ends k xs + count_ends k ys
count_ends-append k [] ys = omega arith
count_ends-append k (end ∷ xs) ys = omega (arith, count_ends-append k xs ys)

-- a file that was taken is another than one that was not
not_own : (progress : BuildProgress) (k position : ℕ) → was_taken progress k ≡ false → was_taken progress position ≡ true → own (eqb position k) ≡ 0
not_own progress k position fresh taken = elim (cases_Bool (eqb position k)) [
  | inl t ↦ absurd (both_ways (was_taken progress k) fresh (subst (λ (j : ℕ). was_taken progress j ≡ true) (eqb-true position k t) taken))
  | inr f ↦ ap own f
]

-- a file that wasn't taken has no running child
no_run : (progress : BuildProgress) (k : ℕ) → was_taken progress k ≡ false → (runs : List Run) → All (λ run. was_taken progress run.position ≡ true) runs → count_runs k runs ≡ 0
no_run progress k fresh [] all = refl
no_run progress k fresh (run ∷ runs) all =
    omega (arith, no_run progress k fresh runs (All-tail (λ r. was_taken progress r.position ≡ true) run runs all), not_own progress k run.position fresh (All-head (λ r. was_taken progress r.position ≡ true) run runs all))

pub no_end : (progress : BuildProgress) (k : ℕ) → was_taken progress k ≡ false → (ends : List End) → All (λ end. was_taken progress end.position ≡ true) ends → count_ends k ends ≡ 0
no_end progress k fresh [] all = refl
no_end progress k fresh (end ∷ ends) all =
    omega (arith, no_end progress k fresh ends (All-tail (λ e. was_taken progress e.position ≡ true) end ends all), not_own progress k end.position fresh (All-head (λ e. was_taken progress e.position ≡ true) end ends all))

-- a child that ends no longer runs
without_run : (k ticket : ℕ) (runs : List Run) (run : Run) → run_of ticket runs ≡ Some run → count_runs k runs ≡ own (eqb run.position k) + count_runs k (others_of ticket runs)
without_run k ticket [] run h = absurd (none-some run h)
without_run k ticket (first ∷ runs) run h =
    elim (cases_Bool (eqb first.ticket ticket)) [
      | inl t ↦
          let same : first ≡ run = same_Some first run (sym (cond-true (eqb first.ticket ticket) (Some first) (run_of ticket runs) t) ∙ h) in
          rw t (ap (λ (r : Run). own (eqb r.position k) + count_runs k runs) same)
      | inr f ↦
          let rest = without_run k ticket runs run (sym (cond-false (eqb first.ticket ticket) (Some first) (run_of ticket runs) f) ∙ h) in
          rw f (omega (arith, rest))
    ]

fewer_runs : (k ticket : ℕ) (runs : List Run) → count_runs k (others_of ticket runs) ≤ count_runs k runs
fewer_runs k ticket [] = omega arith
fewer_runs k ticket (run ∷ runs) =
    elim (cases_Bool (eqb run.ticket ticket)) [
      | inl t ↦ rw t (omega arith)
      | inr f ↦ rw f (omega (arith, fewer_runs k ticket runs))
    ]

module _ (answer : Request → Exit) (setting : Work) (k : ℕ) where
  abbrev IsOnce : BuildProgress → Type 0
  IsOnce progress = count_runs k progress.runs + count_ends k progress.ends ≤ 1

  once_start : (lost : Bool) (progress : BuildProgress) → IsOrderly setting lost progress → IsOnce progress → (ticket : ℕ) (request : Request) (next : Option ℕ) → next_position setting progress ≡ next →
      option_and_then (request_at setting progress.ends) next ≡ Some request → count_runs k (progress.runs ++ (record { ticket = ticket; position = unwrap_or next 0; request = request; below = files_below setting progress.ends (unwrap_or next 0) }) ∷ []) + count_ends k progress.ends ≤ 1
  once_start lost progress orderly once ticket request None e asks = absurd (none-some request asks)
  once_start lost progress orderly once ticket request (Some position) e asks =
      let run : Run = record { ticket = ticket; position = position; request = request; below = files_below setting progress.ends position } in
      let pushed : count_runs k (progress.runs ++ run ∷ []) ≡ count_runs k progress.runs + own (eqb position k) = count_runs-push k progress.runs run in
      elim (cases_Bool (eqb position k)) [
        | inl t ↦
            let fresh : was_taken progress k ≡ false = subst (λ (j : ℕ). was_taken progress j ≡ false) (eqb-true position k t) (startable_parts setting progress position (next_parts setting progress position e).1).0 in
            let one : own (eqb position k) ≡ 1 = ap own t in
            omega (arith, pushed, one, no_run progress k fresh progress.runs orderly.runs, no_end progress k fresh progress.ends orderly.ends)
        | inr f ↦ let none : own (eqb position k) ≡ 0 = ap own f in omega (arith, pushed, none, once)
      ]

  once_end : (progress : BuildProgress) → IsOnce progress → (ticket : ℕ) (exit : Exit) → option_map (λ run. answer run.request) (run_of ticket progress.runs) ≡ Some exit →
      count_runs k (others_of ticket progress.runs) + count_ends k (progress.ends ++ end_of (run_of ticket progress.runs) exit) ≤ 1
  once_end progress once ticket exit h =
      let found = ended_run answer (run_of ticket progress.runs) exit h in
      let run : Run = found.0 in
      let one : count_ends k (end_of (run_of ticket progress.runs) exit) ≡ own (eqb run.position k) + 0 = ap (λ (r : Option Run). count_ends k (end_of r exit)) found.1 in
      omega (arith, one, count_ends-append k progress.ends (end_of (run_of ticket progress.runs) exit), without_run k ticket progress.runs run found.1, once)

  once_after : (lost : Bool) (progress : BuildProgress) → IsOrderly setting lost progress → IsOnce progress → (events : List Event) → Steps answer setting progress events → IsOnce (after_all setting progress events)
  unfolding after_all after Steps
  once_after lost progress orderly once [] steps = once
  once_after lost progress orderly once (Started ticket request ∷ events) steps =
      once_after lost (after setting progress (Started ticket request)) (started_orderly answer setting lost progress orderly ticket request)
      (once_start lost progress orderly once ticket request (next_position setting progress) refl steps.0.least) events steps.1
  once_after lost progress orderly once (Ended ticket exit ∷ events) steps =
      once_after lost (after setting progress (Ended ticket exit)) (ended_orderly answer setting lost progress orderly ticket exit steps.0) (once_end progress once ticket exit steps.0) events steps.1
  once_after lost progress orderly once (Gone ticket ∷ events) steps =
      once_after true (after setting progress (Gone ticket)) (gone_orderly answer setting lost progress orderly ticket) (omega (arith, fewer_runs k ticket progress.runs, once)) events steps

  -- at most one child of each file has ended
  pub ended_once : (events : List Event) → Lawful setting events → Answered answer events → count_ends k (progress_of setting events).ends ≤ 1
  ended_once events lawful answered =
      let once : IsOnce (progress_of setting events) = once_after false empty_progress (orderly_at_first answer setting) (omega arith) events (steps_of answer setting events lawful answered) in
      omega (arith, once)
