-- What stays so in a journal: what was taken runs or has ended, and a build is halted by a refusal.
use Rattle.std.proofs.Common.{◌≡◌, ℕ, Bool, true, false, not, ◌||◌, eqb, List, [], ◌∷◌, ◌++◌, Option, Some, None, refl, sym, ap, subst, ◌∙◌, inl, inr}
use Rattle.std.specs.Prelude.{All, unwrap_or}
use Rattle.std.specs.Option.{option_map}
use Rattle.std.specs.List.{list_all, list_any}
use Rattle.std.proofs.lemmas.Bool.{cases_Bool, eq-eqb, and_parts, and_from, and_cases, or_cases, or_parts, or_left, or_right, not-false}
use Rattle.std.proofs.lemmas.List.Elements.{All-nil, All-head, All-tail, All-push, All-weaker}
use Rattle.std.proofs.lemmas.List.Folds.{list_any-append}
use Rattle.std.proofs.lemmas.Option.{none-some}
use Rattle.base.specs.declared.child.Request.{Request}
use Rattle.base.specs.declared.child.Exit.{Exit}
use Rattle.base.specs.declared.child.Event.{Event}
use Rattle.base.specs.declared.child.Event.TheVariants.{Started, Ended, Gone}
use Rattle.run_spec.specs.ChildJournal.{Work, Run, End, BuildProgress, empty_progress, exit_at, next_position, files_below, run_of, others_of, end_of, after, after_all, progress_of, Answered, Lawful, is_gone}
use Rattle.run_spec.specs.Settled.{has_ended}
use Rattle.run_spec.proofs.Steps.{Steps, run_found, All-others, steps_of}

abbrev pub was_taken : BuildProgress → ℕ → Bool
was_taken progress position = list_any (λ other. eqb other position) progress.taken

abbrev pub runs_at : List Run → ℕ → Bool
runs_at runs position = list_any (λ run. eqb run.position position) runs

-- a child ended with another code than 0
abbrev pub is_refusal : End → Bool
is_refusal end = not (eqb end.exit.code 0)

-- Each file of a running or ended child was taken. If no end was lost, each taken file has a running or ended child, and only a
-- refusal halts the build. A build that isn't halted has lost no end. Unless it goes on after refusals, a build that isn't
-- halted has no refusal.
pub record IsOrderly (setting : Work) (lost : Bool) (progress : BuildProgress) : Type 0 where
  pub runs : All (λ run. was_taken progress run.position ≡ true) progress.runs
  pub ends : All (λ end. was_taken progress end.position ≡ true) progress.ends
  pub in_step : lost ≡ false → (position : ℕ) → was_taken progress position ≡ true → (runs_at progress.runs position || has_ended progress.ends position) ≡ true
  pub halts : lost ≡ false → progress.halted ≡ true → list_any is_refusal progress.ends ≡ true
  pub goes_on : progress.halted ≡ false → lost ≡ false
  pub accepts : setting.keep_going ≡ false → progress.halted ≡ false → All (λ end. eqb end.exit.code 0 ≡ true) progress.ends

not_both : {X : Type 0} → true ≡ false → X
not_both h = let nothing : ⊥ = cc in absurd nothing

has_ended-append : (xs ys : List End) (position : ℕ) → has_ended (xs ++ ys) position ≡ (has_ended xs position || has_ended ys position)
unfolding exit_at
has_ended-append [] ys position = refl
has_ended-append (end ∷ xs) ys position =
    elim (cases_Bool (eqb end.position position)) [
      | inl t ↦ rw (t) refl
      | inr f ↦ rw (f) (has_ended-append xs ys position)
    ]

-- a child that runs goes on, or is the one that ends
others_stand : (runs : List Run) (ticket : ℕ) (exit : Exit) (position : ℕ) → runs_at runs position ≡ true →
    (runs_at (others_of ticket runs) position || has_ended (end_of (run_of ticket runs) exit) position) ≡ true
unfolding exit_at
others_stand [] ticket exit position h = not_both (sym h)
others_stand (run ∷ runs) ticket exit position h =
    elim (cases_Bool (eqb run.ticket ticket)) [
      | inl t ↦ elim (or_cases (eqb run.position position) (runs_at runs position) h) [
        | inl here ↦ rw (t, here) (or_right (runs_at runs position) true refl)
        | inr rest ↦ rw t (or_left (runs_at runs position) _ rest)
      ]
      | inr f ↦ elim (or_cases (eqb run.position position) (runs_at runs position) h) [
        | inl here ↦ rw (f, here) refl
        | inr rest ↦
            rw f (elim (or_cases (runs_at (others_of ticket runs) position) (has_ended (end_of (run_of ticket runs) exit) position) (others_stand runs ticket exit position rest)) [
              | inl on ↦ or_left _ _ (or_right (eqb run.position position) _ on)
              | inr done ↦ or_right _ _ done
            ])
      ]
    ]

pub ended_run : (answer : Request → Exit) (run : Option Run) (exit : Exit) → option_map (λ r. answer r.request) run ≡ Some exit → (r : Run) × (run ≡ Some r)
ended_run answer None exit h = absurd (none-some exit h)
ended_run answer (Some run) exit h = (run, refl)

module _ (answer : Request → Exit) (setting : Work) where
  pub started_orderly : (lost : Bool) (progress : BuildProgress) → IsOrderly setting lost progress → (ticket : ℕ) (request : Request) → IsOrderly setting lost (after setting progress (Started ticket request))
  unfolding after
  started_orderly lost progress is ticket request =
      let position : ℕ = unwrap_or (next_position setting progress) 0 in
      let run : Run = record { ticket = ticket; position = position; request = request; below = files_below setting progress.ends position } in
      let grows : (k : ℕ) → was_taken progress k ≡ true → list_any (λ other. eqb other k) (progress.taken ++ position ∷ []) ≡ true =
      λ k t. list_any-append (λ other. eqb other k) progress.taken (position ∷ []) ∙ or_left _ _ t in
      let own : list_any (λ other. eqb other position) (progress.taken ++ position ∷ []) ≡ true =
      list_any-append (λ other. eqb other position) progress.taken (position ∷ []) ∙ or_right _ _ (or_left _ _ (eq-eqb position position refl)) in
      record {
        runs = All-push (λ r. list_any (λ other. eqb other r.position) (progress.taken ++ position ∷ []) ≡ true) progress.runs run (All-weaker _ _ (λ r t. grows r.position t) progress.runs is.runs) own;
        ends = All-weaker _ _ (λ e t. grows e.position t) progress.ends is.ends;
        in_step = λ none k t.
            let more : runs_at (progress.runs ++ run ∷ []) k ≡ (runs_at progress.runs k || (eqb position k || false)) = list_any-append (λ r. eqb r.position k) progress.runs (run ∷ []) in
            elim (or_cases (was_taken progress k) (eqb position k || false) (sym (list_any-append (λ other. eqb other k) progress.taken (position ∷ [])) ∙ t)) [
              | inl old ↦ elim (or_cases (runs_at progress.runs k) (has_ended progress.ends k) (is.in_step none k old)) [
                | inl on ↦ or_left (runs_at (progress.runs ++ run ∷ []) k) (has_ended progress.ends k) (more ∙ or_left (runs_at progress.runs k) (eqb position k || false) on)
                | inr done ↦ or_right (runs_at (progress.runs ++ run ∷ []) k) (has_ended progress.ends k) done
              ]
              | inr new ↦ or_left (runs_at (progress.runs ++ run ∷ []) k) (has_ended progress.ends k) (more ∙ or_right (runs_at progress.runs k) (eqb position k || false) new)
            ];
        halts = is.halts;
        goes_on = is.goes_on;
        accepts = is.accepts;
      }

  pub ended_orderly : (lost : Bool) (progress : BuildProgress) → IsOrderly setting lost progress → (ticket : ℕ) (exit : Exit) → option_map (λ run. answer run.request) (run_of ticket progress.runs) ≡ Some exit →
      IsOrderly setting lost (after setting progress (Ended ticket exit))
  unfolding after
  ended_orderly lost progress is ticket exit h =
      let found = ended_run answer (run_of ticket progress.runs) exit h in
      let run : Run = found.0 in
      let end : End = record { position = run.position; request = run.request; below = run.below; exit = exit } in
      let is_end : end_of (run_of ticket progress.runs) exit ≡ end ∷ [] = ap (λ (r : Option Run). end_of r exit) found.1 in
      let taken : was_taken progress run.position ≡ true = run_found (λ r. was_taken progress r.position ≡ true) progress.runs ticket run found.1 is.runs in
      record {
        runs = All-others (λ r. was_taken progress r.position ≡ true) progress.runs ticket is.runs;
        ends = subst (λ (more : List End). All (λ e. was_taken progress e.position ≡ true) (progress.ends ++ more)) (sym is_end) (All-push (λ e. was_taken progress e.position ≡ true) progress.ends end is.ends taken);
        in_step = λ none k t.
            let more = has_ended-append progress.ends (end_of (run_of ticket progress.runs) exit) k in
            let left : Bool = runs_at (others_of ticket progress.runs) k in
            let ended : Bool = has_ended (end_of (run_of ticket progress.runs) exit) k in
            let all : Bool = has_ended (progress.ends ++ end_of (run_of ticket progress.runs) exit) k in
            elim (or_cases (runs_at progress.runs k) (has_ended progress.ends k) (is.in_step none k t)) [
              | inl on ↦ elim (or_cases left ended (others_stand progress.runs ticket exit k on)) [
                | inl still ↦ or_left left all still
                | inr done ↦ or_right left all (more ∙ or_right (has_ended progress.ends k) ended done)
              ]
              | inr done ↦ or_right left all (more ∙ or_left (has_ended progress.ends k) ended done)
            ];
        halts = λ none halted.
            let more = list_any-append is_refusal progress.ends (end_of (run_of ticket progress.runs) exit) in
            more ∙ elim (or_cases _ _ halted) [
              | inl old ↦ or_left _ _ (is.halts none old)
              | inr new ↦ or_right _ _ (ap (list_any is_refusal) is_end ∙ or_left (not (eqb exit.code 0)) false (and_parts (not setting.keep_going) (not (eqb exit.code 0)) new).1)
            ];
        goes_on = λ on. is.goes_on (or_parts _ _ on).0;
        accepts = λ keep on.
            let parts = or_parts _ _ on in
            let zero_code : eqb exit.code 0 ≡ true = elim (and_cases _ _ parts.1) [
              | inl kept ↦ not_both (sym (ap not keep) ∙ kept)
              | inr code ↦ not-false _ code
            ] in
            subst (λ (more : List End). All (λ e. eqb e.exit.code 0 ≡ true) (progress.ends ++ more)) (sym is_end)
            (All-push (λ e. eqb e.exit.code 0 ≡ true) progress.ends end (is.accepts keep parts.0) zero_code);
      }

  pub gone_orderly : (lost : Bool) (progress : BuildProgress) → IsOrderly setting lost progress → (ticket : ℕ) → IsOrderly setting true (after setting progress (Gone ticket))
  unfolding after
  gone_orderly lost progress is ticket = record {
    runs = All-others (λ r. was_taken progress r.position ≡ true) progress.runs ticket is.runs;
    ends = is.ends;
    in_step = λ none. not_both none;
    halts = λ none. not_both none;
    goes_on = λ on. not_both on;
    accepts = λ keep on. not_both on;
  }

  -- events keep it
  pub orderly_after : (lost : Bool) (progress : BuildProgress) → IsOrderly setting lost progress → (events : List Event) → Steps answer setting progress events →
      IsOrderly setting (lost || list_any is_gone events) (after_all setting progress events)
  unfolding after_all Steps
  orderly_after lost progress is [] steps = subst (λ (b : Bool). IsOrderly setting b progress) (sym (same lost)) is where
    same : (b : Bool) → (b || false) ≡ b
    same true = refl
    same false = refl
  orderly_after lost progress is (Started ticket request ∷ events) steps = orderly_after lost (after setting progress (Started ticket request)) (started_orderly lost progress is ticket request) events steps.1
  orderly_after lost progress is (Ended ticket exit ∷ events) steps = orderly_after lost (after setting progress (Ended ticket exit)) (ended_orderly lost progress is ticket exit steps.0) events steps.1
  orderly_after lost progress is (Gone ticket ∷ events) steps =
      subst (λ (b : Bool). IsOrderly setting b (after_all setting (after setting progress (Gone ticket)) events)) (sym (or_right lost true refl))
      (orderly_after true (after setting progress (Gone ticket)) (gone_orderly lost progress is ticket) events steps)

  pub orderly_at_first : IsOrderly setting false empty_progress
  orderly_at_first = record {
    runs = All-nil (λ run. was_taken empty_progress run.position ≡ true);
    ends = All-nil (λ end. was_taken empty_progress end.position ≡ true);
    in_step = λ none position t. not_both (sym t);
    halts = λ none t. not_both (sym t);
    goes_on = λ on. refl;
    accepts = λ keep on. All-nil (λ end. eqb end.exit.code 0 ≡ true);
  }

  -- a journal from the start is so
  pub orderly_progress : (events : List Event) → Lawful setting events → Answered answer events → IsOrderly setting (list_any is_gone events) (progress_of setting events)
  orderly_progress events lawful answered = orderly_after false empty_progress orderly_at_first events (steps_of answer setting events lawful answered)

-- a test that each item passes
pub list_all-from_All : {X : Type 0} (p : X → Bool) (xs : List X) → All (λ x. p x ≡ true) xs → list_all p xs ≡ true
list_all-from_All p [] all = refl
list_all-from_All p (x ∷ xs) all = and_from _ _ (All-head (λ y. p y ≡ true) x xs all) (list_all-from_All p xs (All-tail (λ y. p y ≡ true) x xs all))

-- an item that passes, of a list of which something holds
pub any_found : {X : Type 0} (p : X → Bool) (P : X → Type 0) (xs : List X) → list_any p xs ≡ true → All P xs → (x : X) × (p x ≡ true) × P x
any_found p P [] h all = not_both (sym h)
any_found p P (x ∷ xs) h all =
    elim (or_cases (p x) (list_any p xs) h) [
      | inl here ↦ (x, here, All-head P x xs all)
      | inr rest ↦ any_found p P xs rest (All-tail P x xs all)
    ]
