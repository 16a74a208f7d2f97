-- Which file of a build may be started.
use Rattle.std.proofs.Common.{◌≡◌, ℕ, zero, suc, ◌+◌, ◌<◌, ◌≤◌, Bool, true, false, eqb, length, Option, Some, None, refl, sym, ap, ◌∙◌, arith, inl, inr}
use Rattle.std.specs.Prelude.{is_some, is_none}
use Rattle.std.specs.List.{list_any}
use Rattle.std.proofs.lemmas.Bool.{cases_Bool, cases_eq, cond-true, cond-false, and_parts, not-true}
use Rattle.std.proofs.lemmas.Option.{none-some, same_Some}
use Rattle.outside.specs.Records.{deps_at}
use Rattle.run_spec.specs.Moves.{is_startable, first_from, next_start}
use Rattle.run_spec.specs.ChildJournal.{Work, BuildProgress, artefact_so_far, has_all, workload_of, schedule_of, next_position}
use Rattle.run_spec.proofs.Journal.{startable_is}

pub some_value : {X : Type 0} (o : Option X) → is_some o ≡ true → (x : X) × (o ≡ Some x)
some_value None h = let nothing : ⊥ = cc in absurd nothing
some_value (Some x) h = (x, refl)

pub none_value : {X : Type 0} (o : Option X) → is_none o ≡ true → o ≡ None
none_value None h = refl
none_value (Some x) h = let nothing : ⊥ = cc in absurd nothing

-- the first position that passes: it passes, and none before it does
pub first_at : (p : ℕ → Bool) (from n i : ℕ) → first_from p from n ≡ Some i → (from ≤ i) × (i < from + n) × (p i ≡ true) × ((k : ℕ) → from ≤ k → k < i → p k ≡ false)
unfolding first_from
first_at p from zero i h = absurd (none-some i h)
first_at p from (suc n) i h =
    elim (cases_Bool (p from)) [
      | inl t ↦
          let same : from ≡ i = same_Some from i (sym (cond-true (p from) (Some from) (first_from p (suc from) n) t) ∙ h) in
          (omega arith, omega arith, ap p (sym same) ∙ t, λ k a b. absurd (omega arith))
      | inr f ↦
          let rest = first_at p (suc from) n i (sym (cond-false (p from) (Some from) (first_from p (suc from) n) f) ∙ h) in (
            omega (arith, rest.0),
            omega (arith, rest.1),
            rest.2,
            λ k a b. elim (cases_eq from k) [
              | inl same ↦ ap p (sym same) ∙ f
              | inr other ↦ rest.3 k (omega arith) b
            ],
          )
    ]

-- where none is found none passes
pub first_missing : (p : ℕ → Bool) (from n : ℕ) → first_from p from n ≡ None → (k : ℕ) → from ≤ k → k < from + n → p k ≡ false
unfolding first_from
first_missing p from zero h k a b = absurd (omega arith)
first_missing p from (suc n) h k a b =
    elim (cases_Bool (p from)) [
      | inl t ↦ absurd (none-some from (sym h ∙ cond-true (p from) (Some from) (first_from p (suc from) n) t))
      | inr f ↦ elim (cases_eq from k) [
        | inl same ↦ ap p (sym same) ∙ f
        | inr other ↦ first_missing p (suc from) n (sym (cond-false (p from) (Some from) (first_from p (suc from) n) f) ∙ h) k (omega arith) (omega arith)
      ]
    ]

-- a file that may be started wasn't, has no artefact, and all that it depends on has one
pub startable_parts : (setting : Work) (progress : BuildProgress) (position : ℕ) → is_startable (workload_of setting) (schedule_of progress) position ≡ true →
    (list_any (λ other. eqb other position) progress.taken ≡ false) × (artefact_so_far setting progress.ends position ≡ None) × (has_all (artefact_so_far setting progress.ends) (deps_at setting.graph position) ≡ true)
unfolding has_all
startable_parts setting progress position h =
    let all = and_parts _ _ (sym (startable_is setting progress position) ∙ h) in
    let two = and_parts _ _ all.0 in
    (not-true _ two.0, none_value _ two.1, all.1)

-- the least position of a file that may be started
pub next_parts : (setting : Work) (progress : BuildProgress) (position : ℕ) → next_position setting progress ≡ Some position →
    (position < length setting.graph) × (is_startable (workload_of setting) (schedule_of progress) position ≡ true) × ((k : ℕ) → k < position → is_startable (workload_of setting) (schedule_of progress) k ≡ false)
unfolding next_start
next_parts setting progress position h =
    let found = first_at (is_startable (workload_of setting) (schedule_of progress)) 0 (length setting.graph) position h in
    (omega (arith, found.1), found.2, λ k l. found.3 k (omega arith) l)

pub next_missing : (setting : Work) (progress : BuildProgress) → next_position setting progress ≡ None → (k : ℕ) → k < length setting.graph → is_startable (workload_of setting) (schedule_of progress) k ≡ false
unfolding next_start
next_missing setting progress h k l = first_missing (is_startable (workload_of setting) (schedule_of progress)) 0 (length setting.graph) h k (omega arith) (omega arith)
