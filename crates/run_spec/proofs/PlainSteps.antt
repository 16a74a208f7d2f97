-- What a step says, and what the moves of an end are, apart from any machine.
use Rattle.std.proofs.Common.{◌≡◌, ℕ, ◌≤◌, ◌==◌, nat_lt, Bool, true, false, not, ◌&&◌, ◌||◌, cond, List, [], ◌∷◌, ◌++◌, length, Some, None, refl, sym, ap, ◌∙◌, arith, inl, inr}
use Rattle.std.specs.Prelude.{Option, IsTrue, is_none}
use Rattle.std.specs.List.{list_any}
use Rattle.std.proofs.lemmas.Bool.{cases_Bool, cond-false, lt-ltb, or_left, or_right}
use Rattle.std.proofs.lemmas.List.Folds.{list_any-append}
use Rattle.run_spec.specs.Moves.{Workload, SchedulerState, RunningChild, EndedChild, Ends, has_ended_well, after_move, without_child, position_of, ended_child, is_running}
use Rattle.run_spec.specs.Steps.{step_of, with_end, without_ticket}
use Rattle.run_spec.specs.declared.step.Step.TheVariants.{Start, Wait, Finished}

pub step_starts : (o : Option ℕ) (idle : Bool) (at : ℕ) → step_of o idle ≡ Start at → o ≡ Some at
step_starts (Some position) idle at h = cc
step_starts None true at h = absurd (let nothing : ⊥ = cc in nothing)
step_starts None false at h = absurd (let nothing : ⊥ = cc in nothing)

pub step_waits : (o : Option ℕ) (idle : Bool) → step_of o idle ≡ Wait → (o ≡ None) × (idle ≡ false)
step_waits (Some position) idle h = absurd (let nothing : ⊥ = cc in nothing)
step_waits None true h = absurd (let nothing : ⊥ = cc in nothing)
step_waits None false h = (refl, refl)

pub step_ends : (o : Option ℕ) (idle : Bool) → step_of o idle ≡ Finished → (o ≡ None) × (idle ≡ true)
step_ends (Some position) idle h = absurd (let nothing : ⊥ = cc in nothing)
step_ends None true h = (refl, refl)
step_ends None false h = absurd (let nothing : ⊥ = cc in nothing)

pub step_finished : (o : Option ℕ) (idle : Bool) → o ≡ None → idle ≡ true → Finished ≡ step_of o idle
step_finished o idle none is = sym (ap (λ p. step_of p idle) none ∙ ap (λ b. step_of None b) is)

pub step_wait : (o : Option ℕ) (idle : Bool) → o ≡ None → idle ≡ false → Wait ≡ step_of o idle
step_wait o idle none is = sym (ap (λ p. step_of p idle) none ∙ ap (λ b. step_of None b) is)

-- an end is that of the run at the position of its ticket
pub ends_as : (workload : Workload) (schedule : SchedulerState) (ticket at : ℕ) (ok : Bool) (output : List ℕ) → position_of ticket schedule.running ≡ Some at → with_end workload (without_ticket ticket schedule) at ok output ≡ after_move workload schedule (Ends ticket ok output)
unfolding after_move
ends_as workload schedule ticket at ok output is =
    ap (λ (o : Option ℕ). record { taken = schedule.taken; running = without_child ticket schedule.running; ended = schedule.ended ++ ended_child o ok output; halted = schedule.halted || (not workload.keep_going && not ok) }) (sym is)

pub no_running : (children : List RunningChild) → length children ≡ 0 → children ≡ []
no_running [] none = refl
no_running (child ∷ children) none = absurd (omega arith)

pub over_none : (halted : Bool) (n slots : ℕ) (o : Option ℕ) → n ≡ 0 → 1 ≤ slots → cond (nat_lt n slots && not halted) o None ≡ None → IsTrue (is_none o || halted)
over_none true n slots (Some x) zeros some none = refl
over_none true n slots None zeros some none = refl
over_none false n slots None zeros some none = refl
over_none false n slots (Some x) zeros some none =
    let free : nat_lt n slots ≡ true = lt-ltb n slots (omega arith) in
    let is : Some x ≡ None = sym (ap (λ b. cond (b && not false) (Some x) None) free) ∙ none in
    absurd (let nothing : ⊥ = cc in nothing)

running_has : (children : List RunningChild) (ticket at : ℕ) → position_of ticket children ≡ Some at → list_any (λ (child : RunningChild). child.ticket == ticket) children ≡ true
running_has [] ticket at h = absurd (let nothing : ⊥ = cc in nothing)
running_has (child ∷ children) ticket at h = elim (cases_Bool (child.ticket == ticket)) [
  | inl is ↦ or_left (child.ticket == ticket) (list_any (λ (c : RunningChild). c.ticket == ticket) children) is
  | inr other ↦
      or_right (child.ticket == ticket) (list_any (λ (c : RunningChild). c.ticket == ticket) children)
      (running_has children ticket at (sym (cond-false (child.ticket == ticket) (Some child.position) (position_of ticket children) other) ∙ h))
]

pub lawful_end : (schedule : SchedulerState) (ticket at : ℕ) → position_of ticket schedule.running ≡ Some at → IsTrue (is_running schedule ticket)
lawful_end schedule ticket at h = running_has schedule.running ticket at h

well_one : (x y ok : Bool) → (x || ((y && ok) || false)) ≡ (x || (y && ok))
well_one true y ok = refl
well_one false true true = refl
well_one false true false = refl
well_one false false ok = refl

-- whose children have ended well after one more end
pub well_after_end : (ended : List EndedChild) (end : EndedChild) (k : ℕ) → has_ended_well (ended ++ end ∷ []) k ≡ (has_ended_well ended k || (end.position == k && end.ok))
unfolding has_ended_well
well_after_end ended end k =
    list_any-append (λ (e : EndedChild). (e.position == k) && e.ok) ended (end ∷ [])
    ∙ well_one (list_any (λ (e : EndedChild). (e.position == k) && e.ok) ended) (end.position == k) end.ok
