-- A row stays in step with what has happened.
use Rattle.std.proofs.Common.{suc, ◌≡◌, ◌≢◌, ℕ, ◌+◌, ◌<◌, ◌≤◌, ◌==◌, nat_lt, Bool, true, false, not, ◌&&◌, ◌||◌, cond, List, [], ◌∷◌, ◌++◌, length, map, Some, None, refl, sym, ap, ◌∙◌, arith}
use Rattle.std.specs.Prelude.{Option}
use Rattle.std.proofs.lemmas.Bool.{ne_eqb, and_parts, not-true, ltb-true, eqb-true, eqb-false}
use Rattle.std.proofs.lemmas.List.{map-append, length-map}
use Rattle.run_spec.specs.Moves.{Workload, SchedulerState, RunningChild, Starts, empty_schedule, has_ended_well, is_made_so_far, next_start, start_now, after_move, IsFinished}
use Rattle.base.specs.PresentGraph.{below}
use Rattle.run_spec.proofs.InLine.{first_in_line}
use Rattle.run_spec.specs.Steps.{running_child, step_of, step_at, with_end}
use Rattle.run_spec.specs.declared.step.Step.TheVariants.{Start, Wait, Finished}
use Rattle.run_spec.proofs.PlainSteps.{step_starts, step_waits, step_ends, no_running, over_none, well_after_end}
use Rattle.run_scheduler.specs.Rows.{candidate_of, next_of, IsSchedulerWorkload, IsSchedulerOf}
use Rattle.run_scheduler.specs.declared.test_scheduler.TestScheduler.{TestScheduler}

-- the run that is first in line, where one is left
abbrev left_of : TestScheduler → Option ℕ
left_of scheduler = cond (nat_lt scheduler.next scheduler.count) (Some scheduler.next) None

-- the first that may be started is the first in line
first_left : (scheduler : TestScheduler) (workload : Workload) (schedule : SchedulerState) → IsSchedulerOf scheduler workload schedule → next_start workload schedule ≡ left_of scheduler
first_left scheduler workload schedule is =
    first_in_line workload schedule scheduler.next (record { deps = is.of_workload.deps; taken = is.taken; unmade = is.unmade }) ∙ ap (λ n. cond (nat_lt scheduler.next n) (Some scheduler.next) None) is.of_workload.count

running_count : (scheduler : TestScheduler) (workload : Workload) (schedule : SchedulerState) → IsSchedulerOf scheduler workload schedule → length scheduler.children.items ≡ length schedule.running
running_count scheduler workload schedule is = sym (ap (λ (xs : List RunningChild). length xs) is.running ∙ length-map scheduler.children.items running_child)

-- the position that the scheduler would start is the one to be started now
pub candidate_same : (scheduler : TestScheduler) (workload : Workload) (schedule : SchedulerState) → IsSchedulerOf scheduler workload schedule → candidate_of scheduler ≡ start_now workload schedule
unfolding candidate_of
candidate_same scheduler workload schedule is =
    ap (λ n. cond (nat_lt n scheduler.limit && not scheduler.is_halted) (left_of scheduler) None) (running_count scheduler workload schedule is)
    ∙ ap (λ n. cond (nat_lt (length schedule.running) n && not scheduler.is_halted) (left_of scheduler) None) (sym is.of_workload.slots)
    ∙ ap (λ b. cond (nat_lt (length schedule.running) workload.slots && not b) (left_of scheduler) None) (sym is.halted)
    ∙ ap (λ o. cond (nat_lt (length schedule.running) workload.slots && not schedule.halted) o None) (sym (first_left scheduler workload schedule is))

pub next_in_step : (scheduler : TestScheduler) (workload : Workload) (schedule : SchedulerState) → IsSchedulerOf scheduler workload schedule → next_of scheduler ≡ step_at workload schedule
unfolding next_of step_at
next_in_step scheduler workload schedule is =
    ap (λ o. step_of o (length scheduler.children.items == 0)) (candidate_same scheduler workload schedule is) ∙ ap (λ n. step_of (start_now workload schedule) (n == 0)) (running_count scheduler workload schedule is)

-- what a step says of the row
pub next_starts : (scheduler : TestScheduler) (at : ℕ) → next_of scheduler ≡ Start at → candidate_of scheduler ≡ Some at
unfolding next_of
next_starts scheduler at h = step_starts (candidate_of scheduler) (length scheduler.children.items == 0) at h

pub next_waits : (scheduler : TestScheduler) → next_of scheduler ≡ Wait → (candidate_of scheduler ≡ None) × (length scheduler.children.items ≢ 0)
unfolding next_of
next_waits scheduler h = let both = step_waits (candidate_of scheduler) (length scheduler.children.items == 0) h in (both.0, eqb-false (length scheduler.children.items) 0 both.1)

pub next_ends : (scheduler : TestScheduler) → next_of scheduler ≡ Finished → (candidate_of scheduler ≡ None) × (length scheduler.children.items ≡ 0)
unfolding next_of
next_ends scheduler h = let both = step_ends (candidate_of scheduler) (length scheduler.children.items == 0) h in (both.0, eqb-true (length scheduler.children.items) 0 both.1)

pub record IsStart (scheduler : TestScheduler) (at : ℕ) : Type 0 where
  pub room : length scheduler.children.items < scheduler.limit
  pub first : at ≡ scheduler.next
  pub within : at < scheduler.count
  pub goes_on : scheduler.is_halted ≡ false

start_by : (scheduler : TestScheduler) (at : ℕ) (free left : Bool) → (nat_lt (length scheduler.children.items) scheduler.limit && not scheduler.is_halted) ≡ free → nat_lt scheduler.next scheduler.count ≡ left → cond free (cond left (Some scheduler.next) None) None ≡ Some at → IsStart scheduler at
start_by scheduler at true true free left h =
    let both = and_parts (nat_lt (length scheduler.children.items) scheduler.limit) (not scheduler.is_halted) free in
    let same : at ≡ scheduler.next = cc in
    record {
      room = ltb-true (length scheduler.children.items) scheduler.limit both.0;
      first = same;
      within = omega (arith, same, ltb-true scheduler.next scheduler.count left);
      goes_on = not-true scheduler.is_halted both.1;
    }
start_by scheduler at true false free left h = absurd (let nothing : ⊥ = cc in nothing)
start_by scheduler at false left free is h = absurd (let nothing : ⊥ = cc in nothing)

pub start_is : (scheduler : TestScheduler) (at : ℕ) → next_of scheduler ≡ Start at → IsStart scheduler at
unfolding candidate_of
start_is scheduler at h = start_by scheduler at (nat_lt (length scheduler.children.items) scheduler.limit && not scheduler.is_halted) (nat_lt scheduler.next scheduler.count) refl refl (next_starts scheduler at h)

pub lawful_start : (scheduler : TestScheduler) (workload : Workload) (schedule : SchedulerState) (at : ℕ) → IsSchedulerOf scheduler workload schedule → next_of scheduler ≡ Start at → start_now workload schedule ≡ Some at
lawful_start scheduler workload schedule at is h = sym (candidate_same scheduler workload schedule is) ∙ next_starts scheduler at h

pub greedy_end : (scheduler : TestScheduler) (workload : Workload) (schedule : SchedulerState) → IsSchedulerOf scheduler workload schedule → next_of scheduler ≡ Wait → start_now workload schedule ≡ None
greedy_end scheduler workload schedule is h = sym (candidate_same scheduler workload schedule is) ∙ (next_waits scheduler h).0

pub finished_is : (scheduler : TestScheduler) (workload : Workload) (schedule : SchedulerState) → IsSchedulerOf scheduler workload schedule → next_of scheduler ≡ Finished → IsFinished workload schedule
finished_is scheduler workload schedule is h =
    let none : length schedule.running ≡ 0 = sym (running_count scheduler workload schedule is) ∙ (next_ends scheduler h).1 in
    record {
      idle = no_running schedule.running none;
      over = over_none schedule.halted (length schedule.running) workload.slots (next_start workload schedule) none (omega (arith, is.of_workload.slots, scheduler.some)) (sym (candidate_same scheduler workload schedule is) ∙ (next_ends scheduler h).0);
    }

made_after_start : (workload : Workload) (schedule : SchedulerState) (at ticket k : ℕ) → is_made_so_far workload (after_move workload schedule (Starts at ticket)) k ≡ is_made_so_far workload schedule k
unfolding after_move
made_after_start workload schedule at ticket k = refl

below_more : (n : ℕ) → below (n + 1) ≡ below n ++ n ∷ []
unfolding below
below_more n = let same : n + 1 ≡ suc n = omega arith in ap below same

-- it is still of this workload
still_of : (workload : Workload) (runs limit : ℕ) (fail_fast : Bool) (count most : ℕ) (fails : Bool) → count ≡ runs → most ≡ limit → fails ≡ fail_fast → IsSchedulerWorkload workload runs limit fail_fast → IsSchedulerWorkload workload count most fails
still_of workload runs limit fail_fast count most fails c l f is = record {
  count = is.count ∙ sym c;
  deps = is.deps;
  is_made = is.is_made;
  slots = is.slots ∙ sym l;
  keep_going = is.keep_going ∙ ap not (sym f);
}

-- the next run is started
pub in_step_started : (old new : TestScheduler) (workload : Workload) (schedule : SchedulerState) (at ticket : ℕ) → at ≡ old.next → new.next ≡ old.next + 1 → new.count ≡ old.count → new.limit ≡ old.limit → new.fail_fast ≡ old.fail_fast
    → new.children.items ≡ old.children.items ++ (record { ticket = ticket; position = at }) ∷ [] → new.is_halted ≡ old.is_halted → IsSchedulerOf old workload schedule → IsSchedulerOf new workload (after_move workload schedule (Starts at ticket))
unfolding after_move
in_step_started old new workload schedule at ticket first next count limit fail children halted is = record {
  of_workload = still_of workload _ _ _ _ _ _ count limit fail is.of_workload;
  halted = is.halted ∙ sym halted;
  running = ap (λ running. running ++ (record { ticket = ticket; position = at }) ∷ []) is.running
      ∙ sym (map-append running_child old.children.items ((record { ticket = ticket; position = at }) ∷ [])) ∙ ap (map running_child) (sym children);
  taken = ap (λ xs. xs ++ at ∷ []) is.taken ∙ ap (λ n. below old.next ++ n ∷ []) first ∙ sym (below_more old.next) ∙ ap below (sym next);
  unmade = λ k le. made_after_start workload schedule at ticket k ∙ is.unmade k (omega (arith, next));
}

-- a run that wasn't started isn't made by the end of one that was
end_other : (w e ok : Bool) → w ≡ false → e ≡ false → (w || (e && ok)) ≡ false
end_other w e ok fails other = ap (λ b. b || (e && ok)) fails ∙ ap (λ b. b && ok) other

pub unmade_after_end : (scheduler : TestScheduler) (workload : Workload) (schedule : SchedulerState) (at : ℕ) (ok : Bool) (output : List ℕ) → IsSchedulerOf scheduler workload schedule → at < scheduler.next → (k : ℕ) → scheduler.next ≤ k → is_made_so_far workload (with_end workload schedule at ok output) k ≡ false
unmade_after_end scheduler workload schedule at ok output is lt k le =
    is.of_workload.is_made (schedule.ended ++ (record { position = at; ok = ok; output = output }) ∷ []) k
    ∙ well_after_end schedule.ended (record { position = at; ok = ok; output = output }) k
    ∙ end_other (has_ended_well schedule.ended k) (at == k) ok (sym (is.of_workload.is_made schedule.ended k) ∙ is.unmade k le) (ne_eqb at k (λ e. omega (arith, e, lt, le)))

pub unmade_first : (workload : Workload) (runs limit : ℕ) (fail_fast : Bool) → IsSchedulerWorkload workload runs limit fail_fast → (at : ℕ) → is_made_so_far workload empty_schedule at ≡ false
unfolding has_ended_well
unmade_first workload runs limit fail_fast is at = is.is_made [] at

-- a run has ended
pub in_step_ended : (old new : TestScheduler) (workload : Workload) (schedule : SchedulerState) (at : ℕ) (ok : Bool) (output : List ℕ) → new.next ≡ old.next → new.count ≡ old.count → new.limit ≡ old.limit → new.fail_fast ≡ old.fail_fast → new.children.items ≡ old.children.items
    → (schedule.halted || (not workload.keep_going && not ok)) ≡ new.is_halted → at < old.next → IsSchedulerOf old workload schedule → IsSchedulerOf new workload (with_end workload schedule at ok output)
in_step_ended old new workload schedule at ok output next count limit fail children halted lt is = record {
  of_workload = still_of workload _ _ _ _ _ _ count limit fail is.of_workload;
  halted = halted;
  running = is.running ∙ ap (map running_child) (sym children);
  taken = is.taken ∙ ap below (sym next);
  unmade = λ k le. unmade_after_end old workload schedule at ok output is lt k (omega (arith, le, next));
}

pub scheduler_halts : (h keep fail ok : Bool) → keep ≡ not fail → fail ≡ true → ok ≡ false → (h || (not keep && not ok)) ≡ true
scheduler_halts true keep fail ok k f o = refl
scheduler_halts false keep fail ok k f o = ap (λ b. not b && not ok) (k ∙ ap not f) ∙ ap not o

pub scheduler_goes_on : (h keep fail ok : Bool) → keep ≡ not fail → ok ≡ true → (h || (not keep && not ok)) ≡ h
scheduler_goes_on h keep fail ok k o = ap (λ b. h || (not keep && not b)) o ∙ with_false h (not keep)
  where
    with_false : (a b : Bool) → (a || (b && false)) ≡ a
    with_false true b = refl
    with_false false true = refl
    with_false false false = refl

pub scheduler_keeps : (h keep fail ok : Bool) → keep ≡ not fail → fail ≡ false → (h || (not keep && not ok)) ≡ h
scheduler_keeps h keep fail ok k f = ap (λ b. h || (not b && not ok)) (k ∙ ap not f) ∙ or_no h
  where
    or_no : (a : Bool) → (a || false) ≡ a
    or_no true = refl
    or_no false = refl
