-- What the step that a machine gives says of it.
use Rattle.std.proofs.Common.{◌≡◌, ◌≢◌, ℕ, ◌<◌, ◌==◌, nat_lt, Bool, true, false, not, ◌&&◌, ◌||◌, length, Option, Some, None, refl, sym, ap, ◌∙◌, arith, inl, inr}
use Rattle.std.proofs.lemmas.Bool.{cases_Bool, cond-true, cond-false, and_parts, not-true, ltb-true, eqb-true, eqb-false, true≢false}
use Rattle.std.proofs.lemmas.Option.{none-some}
use Rattle.base_collections.specs.Positions.{has}
use Rattle.order.specs.Waits.{is_listed}
use Rattle.run_spec.specs.Moves.{first_from}
use Rattle.run_spec.specs.Steps.{step_of}
use Rattle.run_spec.specs.declared.step.Step.{Step}
use Rattle.run_spec.specs.declared.step.Step.TheVariants.{Start, Wait, Finished}
use Rattle.run_spec.proofs.PlainSteps.{step_starts, step_waits, step_ends}
use Rattle.run_scheduler.specs.declared.build_scheduler.BuildScheduler.{BuildScheduler}
use Rattle.run_scheduler.specs.declared.step.BuildStep.TheVariants.{Check, Run}
use Rattle.run_scheduler.specs.Machines.{is_stopped_in, check_before, check_of, candidate_of, next_of, files_of}
use Rattle.run_scheduler.proofs.Passing.{first_is}

runs_when : (o : Option ℕ) (own step : Step) → check_before o own ≡ Run step → (o ≡ None) × (own ≡ step)
runs_when None own step h = (refl, let same : own ≡ step = cc in same)
runs_when (Some at) own step h = absurd (let nothing : ⊥ = cc in nothing)

checks_when : (o : Option ℕ) (own : Step) (at : ℕ) → check_before o own ≡ Check at → o ≡ Some at
checks_when None own at h = absurd (let nothing : ⊥ = cc in nothing)
checks_when (Some other) own at h = let same : other ≡ at = cc in ap (λ (k : ℕ). Some k) same

pub run_parts : (machine : BuildScheduler) (step : Step) → next_of machine ≡ Run step → (check_of machine ≡ None) × (step_of (candidate_of machine) (length machine.children.items == 0) ≡ step)
unfolding next_of
run_parts machine step h = runs_when (check_of machine) (step_of (candidate_of machine) (length machine.children.items == 0)) step h

-- what a check says of the machine
pub record IsCheck (machine : BuildScheduler) (at : ℕ) : Type 0 where
  pub within : at < files_of machine
  pub listed : is_listed machine.later at ≡ true
  pub goes_on : machine.is_stopped ≡ false

pub check_is : (machine : BuildScheduler) (at : ℕ) → next_of machine ≡ Check at → IsCheck machine at
unfolding next_of check_of
check_is machine at h =
    let is : check_of machine ≡ Some at = checks_when (check_of machine) (step_of (candidate_of machine) (length machine.children.items == 0)) at h in
    elim (cases_Bool machine.is_stopped) [
      | inl stopped ↦ absurd (none-some at (sym (cond-true machine.is_stopped None (first_from (is_listed machine.later) 0 (files_of machine)) stopped) ∙ is))
      | inr on ↦
          let found = first_is (is_listed machine.later) 0 (files_of machine) at (sym (cond-false machine.is_stopped None (first_from (is_listed machine.later) 0 (files_of machine)) on) ∙ is) in
          record { within = omega (arith, found.1); listed = found.0; goes_on = on }
    ]

-- a machine that checks hasn't stopped
pub check_goes_on : (machine : BuildScheduler) (at : ℕ) → next_of machine ≡ Check at → is_stopped_in machine ≡ false
unfolding is_stopped_in
check_goes_on machine at h = (check_is machine at h).goes_on

-- what a start says of the machine
pub record IsStart (machine : BuildScheduler) (at : ℕ) : Type 0 where
  pub room : length machine.children.items < machine.limit
  pub within : at < files_of machine
  pub ready : has machine.ready at ≡ true
  pub goes_on : (machine.is_halted || machine.is_stopped) ≡ false
  pub checked : check_of machine ≡ None

pub start_is : (machine : BuildScheduler) (at : ℕ) → next_of machine ≡ Run (Start at) → IsStart machine at
unfolding candidate_of
start_is machine at h =
    let parts = run_parts machine (Start at) h in
    let is : candidate_of machine ≡ Some at = step_starts (candidate_of machine) (length machine.children.items == 0) at parts.1 in
    elim (cases_Bool (nat_lt (length machine.children.items) machine.limit && not (machine.is_halted || machine.is_stopped))) [
      | inl free ↦
          let found = first_is (has machine.ready) 0 (files_of machine) at
          (sym (cond-true (nat_lt (length machine.children.items) machine.limit && not (machine.is_halted || machine.is_stopped)) (first_from (has machine.ready) 0 (files_of machine)) None free) ∙ is) in
          let both = and_parts (nat_lt (length machine.children.items) machine.limit) (not (machine.is_halted || machine.is_stopped)) free in
          record {
            room = ltb-true (length machine.children.items) machine.limit both.0;
            within = omega (arith, found.1);
            ready = found.0;
            goes_on = not-true (machine.is_halted || machine.is_stopped) both.1;
            checked = parts.0;
          }
      | inr full ↦
          absurd (none-some at (sym (cond-false (nat_lt (length machine.children.items) machine.limit && not (machine.is_halted || machine.is_stopped)) (first_from (has machine.ready) 0 (files_of machine)) None full) ∙ is))
    ]

-- a machine that has stopped checks and starts nothing
pub no_check : (machine : BuildScheduler) → machine.is_stopped ≡ true → (at : ℕ) → next_of machine ≢ Check at
no_check machine stopped at h = true≢false (sym stopped ∙ (check_is machine at h).goes_on)

or_right_true : (h s : Bool) → s ≡ true → (h || s) ≡ true
or_right_true true s is = refl
or_right_true false s is = is

pub no_start : (machine : BuildScheduler) → machine.is_stopped ≡ true → (at : ℕ) → next_of machine ≢ Run (Start at)
no_start machine stopped at h = true≢false (sym (or_right_true machine.is_halted machine.is_stopped stopped) ∙ (start_is machine at h).goes_on)

pub wait_runs : (machine : BuildScheduler) → next_of machine ≡ Run Wait → length machine.children.items ≢ 0
wait_runs machine h = eqb-false (length machine.children.items) 0 (step_waits (candidate_of machine) (length machine.children.items == 0) (run_parts machine Wait h).1).1

pub end_runs : (machine : BuildScheduler) → next_of machine ≡ Run Finished → length machine.children.items ≡ 0
end_runs machine h = eqb-true (length machine.children.items) 0 (step_ends (candidate_of machine) (length machine.children.items == 0) (run_parts machine Finished h).1).1

pub on_from : (h s : Bool) → (h || s) ≡ false → s ≡ false
on_from true s is = absurd (true≢false is)
on_from false s is = is
