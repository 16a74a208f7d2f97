-- Which files a build starts, in any order of ends and with any number of children: each at most once.
use Rattle.std.proofs.Common.{◌≡◌, ℕ, zero, suc, ◌<◌, true, false, eqb, List, [], ◌∷◌, ◌++◌, length, get_or, Option, Some, None, refl, arith, inl, inr}
use Rattle.std.specs.Prelude.{◌≢◌, AllPairs, Contains, unwrap_or}
use Rattle.std.specs.Option.{option_and_then}
use Rattle.std.specs.List.{list_any}
use Rattle.std.proofs.lemmas.Bool.{eqb-true, eq-eqb, or_cases, or_parts, both_ways, false≢true}
use Rattle.std.proofs.lemmas.List.Quantifiers.{all_pairs_push}
use Rattle.std.proofs.lemmas.Option.{none-some}
use Rattle.base.specs.declared.child.Request.{Request}
use Rattle.base.specs.declared.child.Exit.{Exit}
use Rattle.base.specs.declared.child.Event.{Event}
use Rattle.base.specs.declared.child.Event.TheVariants.{Started, Ended, Gone}
use Rattle.run_spec.specs.Moves.{LawfulMoves}
use Rattle.run_spec.specs.ChildJournal.{Work, BuildProgress, empty_progress, artefact_so_far, next_position, request_at, after, after_all, progress_of, Lawful, Answered, is_gone, moves_after}
use Rattle.run_spec.proofs.Steps.{Steps, steps_of, now_parts}
use Rattle.run_laws.proofs.JournalProgress.{startable_parts, next_parts}

-- the file that a request is asked for
pub asked_of : (ask : ℕ → Option Request) (next : Option ℕ) (request : Request) → option_and_then ask next ≡ Some request → (position : ℕ) × (next ≡ Some position) × (ask position ≡ Some request)
asked_of ask None request h = absurd (none-some request h)
asked_of ask (Some position) request h = (position, refl, h)

-- what a test finds is in the list
pub held : (xs : List ℕ) (k : ℕ) → list_any (λ other. eqb other k) xs ≡ true → Contains xs k
held [] k h = absurd (let nothing : ⊥ = cc in nothing)
held (x ∷ xs) k h =
    elim (or_cases (eqb x k) (list_any (λ other. eqb other k) xs) h) [
      | inl here ↦ (0, omega arith, eqb-true x k here)
      | inr rest ↦ let found = held xs k rest in (suc found.0, omega (arith, found.1), found.2)
    ]

-- a position that the test doesn't find differs from each in the list
unlike : (xs : List ℕ) (k : ℕ) → list_any (λ other. eqb other k) xs ≡ false → (j : ℕ) (d : ℕ) → j < length xs → get_or xs j d ≢ k
unlike [] k h j d lt = absurd (omega arith)
unlike (x ∷ xs) k h zero d lt = λ same. both_ways (eqb x k) (or_parts (eqb x k) (list_any (λ other. eqb other k) xs) h).0 (eq-eqb x k same)
unlike (x ∷ xs) k h (suc j) d lt = unlike xs k (or_parts (eqb x k) (list_any (λ other. eqb other k) xs) h).1 j d (omega arith)

-- each file was started once
abbrev pub AreDistinct : List ℕ → Type 0
AreDistinct positions = AllPairs (λ position other. position ≢ other) positions

module _ (answer : Request → Exit) (setting : Work) where
  distinct_start : (progress : BuildProgress) → AreDistinct progress.taken → (request : Request) (next : Option ℕ) → next_position setting progress ≡ next → option_and_then (request_at setting progress.ends) next ≡ Some request →
      AreDistinct (progress.taken ++ unwrap_or next 0 ∷ [])
  distinct_start progress distinct request None e asks = absurd (none-some request asks)
  distinct_start progress distinct request (Some position) e asks =
      all_pairs_push (λ one other. one ≢ other) progress.taken position distinct
      (λ j d lt. unlike progress.taken position (startable_parts setting progress position (next_parts setting progress position e).1).0 j d lt)

  distinct_after : (progress : BuildProgress) → AreDistinct progress.taken → (events : List Event) → Steps answer setting progress events → AreDistinct (after_all setting progress events).taken
  unfolding after_all after Steps
  distinct_after progress distinct [] steps = distinct
  distinct_after progress distinct (Started ticket request ∷ events) steps =
      distinct_after (after setting progress (Started ticket request)) (distinct_start progress distinct request (next_position setting progress) refl steps.0.least) events steps.1
  distinct_after progress distinct (Ended ticket exit ∷ events) steps = distinct_after (after setting progress (Ended ticket exit)) distinct events steps.1
  distinct_after progress distinct (Gone ticket ∷ events) steps = distinct_after (after setting progress (Gone ticket)) distinct events steps

  -- no file is started twice
  pub started_once : (events : List Event) → Lawful setting events → Answered answer events → AreDistinct (progress_of setting events).taken
  started_once events lawful answered = distinct_after empty_progress (λ i j d a b. absurd (omega arith)) events (steps_of answer setting events lawful answered)

  -- a build that goes on after a refusal is never halted by one
  on_after : setting.keep_going ≡ true → (progress : BuildProgress) → progress.halted ≡ false → (events : List Event) → list_any is_gone events ≡ false → (after_all setting progress events).halted ≡ false
  unfolding after_all after
  on_after keep progress on [] none = on
  on_after keep progress on (Started ticket request ∷ events) none = on_after keep (after setting progress (Started ticket request)) on events none
  on_after keep progress on (Ended ticket exit ∷ events) none = on_after keep (after setting progress (Ended ticket exit)) (rw (on, keep) refl) events none
  on_after keep progress on (Gone ticket ∷ events) none = absurd (let nothing : ⊥ = cc in nothing)

  pub never_halted : setting.keep_going ≡ true → (events : List Event) → list_any is_gone events ≡ false → (progress_of setting events).halted ≡ false
  never_halted keep events none = on_after keep empty_progress refl events none

-- where each file has an artefact before any child has ended, nothing happens
pub nothing_due : (setting : Work) → ((position : ℕ) → position < length setting.graph → artefact_so_far setting [] position ≡ None → ⊥) → (events : List Event) → Lawful setting events → events ≡ []
unfolding LawfulMoves moves_after
nothing_due setting all [] lawful = refl
nothing_due setting all (Started ticket request ∷ events) lawful =
    let now = now_parts setting empty_progress (unwrap_or (next_position setting empty_progress) 0) lawful.moves.0 in
    let next = next_parts setting empty_progress (unwrap_or (next_position setting empty_progress) 0) now.2 in
    absurd (all (unwrap_or (next_position setting empty_progress) 0) next.0 (startable_parts setting empty_progress (unwrap_or (next_position setting empty_progress) 0) next.1).1)
nothing_due setting all (Ended ticket exit ∷ events) lawful = absurd (false≢true lawful.moves.0)
nothing_due setting all (Gone ticket ∷ events) lawful = absurd (false≢true lawful.moves.0)
