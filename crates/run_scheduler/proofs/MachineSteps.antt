-- A machine stays in step with a job and with what has happened in it.
use Rattle.std.proofs.Common.{◌≡◌, ℕ, ◌+◌, ◌<◌, ◌≤◌, ◌==◌, nat_lt, Bool, true, false, not, ◌&&◌, ◌||◌, cond, List, [], ◌∷◌, ◌++◌, length, map, get_or, Some, None, refl, sym, ap, ap₂, subst, ◌∙◌, arith, inl, inr}
use Rattle.std.specs.Prelude.{All}
use Rattle.std.specs.List.{list_any, list_all}
use Rattle.std.proofs.Math.ListN.{set}
use Rattle.std.proofs.lemmas.Bool.{cases_Bool, cond-true, cond-false, and_parts, eqb-true, or_left, true≢false, false≢true}
use Rattle.std.proofs.lemmas.List.{length-set, length-map, map-append}
use Rattle.std.proofs.lemmas.List.Folds.{list_any-append}
use Rattle.std.proofs.lemmas.List.Elements.{All-push}
use Rattle.base_collections.specs.Positions.{has}
use Rattle.order.specs.Counts.{is_ready}
use Rattle.order.specs.Waits.{AreWaitingFiles, is_listed, wait_count}
use Rattle.order.proofs.WaitSteps.{listed_is}
use Rattle.run_spec.specs.Moves.{Workload, SchedulerState, RunningChild, EndedChild, IsStepwise, Starts, is_taken, is_made_so_far, is_startable, first_from, next_start, start_now, after_move, IsFinished}
use Rattle.run_spec.specs.Steps.{step_of, step_at, running_child, with_end}
use Rattle.run_spec.specs.declared.child.Child.{Child}
use Rattle.run_spec.specs.declared.step.Step.{Step}
use Rattle.run_spec.specs.declared.step.Step.TheVariants.{Start, Wait, Finished}
use Rattle.run_spec.proofs.PlainSteps.{step_starts, step_waits, step_ends, no_running, over_none}
use Rattle.run_scheduler.specs.declared.build_scheduler.BuildScheduler.{BuildScheduler}
use Rattle.run_scheduler.specs.declared.step.BuildStep.TheVariants.{Run}
use Rattle.run_scheduler.specs.Machines.{is_checked, is_first_fault, is_stopped_in, files_of, check_of, candidate_of, next_of, to_come, count_in, IsMachineOf}
use Rattle.run_scheduler.proofs.Passing.{list_all_more, list_all_same, first_same, none_passes, set_test}
use Rattle.run_spec.proofs.FoldLaws.{by_all_below}
use Rattle.run_scheduler.proofs.NextSteps.{IsCheck, IsStart, run_parts, end_runs}

-- what a file depends on are files
pub deps_below : (workload : Workload) → IsStepwise workload → (k : ℕ) → k < workload.count → All (λ dep. dep < workload.count) (workload.deps k)
deps_below workload wise k lt = λ j d l. omega (arith, wise.before k lt j d l, lt)

unready : (c all : Bool) → c ≡ false → (not c && all) ≡ false → all ≡ false
unready true all is h = absurd (true≢false is)
unready false all is h = h

ready_one : (c t n m all : Bool) → (c ≡ true → all ≡ true) → (c ≡ false → all ≡ false) → n ≡ m → (c && (not t && not n)) ≡ (not t && not m && all)
ready_one true t n m all free waits same = ap (λ b. not t && not b) same ∙ sym (ap (λ b. not t && not m && b) (free refl) ∙ and_true (not t && not m))
  where
    and_true : (x : Bool) → (x && true) ≡ x
    and_true true = refl
    and_true false = refl
ready_one false t n m all free waits same = sym (ap (λ b. not t && not m && b) (waits refl) ∙ and_false (not t && not m))
  where
    and_false : (x : Bool) → (x && false) ≡ false
    and_false true = refl
    and_false false = refl

module _ (machine : BuildScheduler) (workload : Workload) (schedule : SchedulerState) (step : IsMachineOf machine workload schedule) where
  -- what is noted is made
  pub first_fault_made : (k : ℕ) → k < workload.count → is_first_fault machine k ≡ true → is_made_so_far workload schedule k ≡ true
  first_fault_made k lt first_fault = (and_parts (is_checked machine k) (is_made_so_far workload schedule k) (sym (step.made k lt) ∙ first_fault)).1

  listed_ready : (k : ℕ) → k < workload.count → is_listed machine.later k ≡ is_ready workload.deps (λ at. not (is_checked machine at)) (is_first_fault machine) k
  listed_ready k lt = listed_is machine.later workload.count workload.deps (λ at. not (is_checked machine at)) (is_first_fault machine) step.later k lt

  -- a file that is to be checked wasn't, wasn't started, and has all that it depends on made
  pub check_free : (at : ℕ) → IsCheck machine at → (is_checked machine at ≡ false) × (is_taken schedule at ≡ false) × (list_all (is_made_so_far workload schedule) (workload.deps at) ≡ true)
  unfolding is_ready
  check_free at check =
      let lt : at < workload.count = omega (arith, check.within, step.count) in
      let parts = and_parts (not (is_checked machine at)) (list_all (is_first_fault machine) (workload.deps at)) (sym (listed_ready at lt) ∙ check.listed) in
      let new : is_checked machine at ≡ false = not_is (is_checked machine at) parts.0 in
      (new, step.untaken at lt new, list_all_more (is_first_fault machine) (is_made_so_far workload schedule) workload.count first_fault_made (workload.deps at) (deps_below workload step.stepwise at lt) parts.1)
    where
      not_is : (b : Bool) → not b ≡ true → b ≡ false
      not_is true h = absurd (false≢true h)
      not_is false h = refl

  module _ (none : (k : ℕ) → k < workload.count → is_ready workload.deps (λ at. not (is_checked machine at)) (is_first_fault machine) k ≡ false) where
    waits : (k : ℕ) → k < workload.count → is_checked machine k ≡ false → list_all (is_first_fault machine) (workload.deps k) ≡ false
    unfolding is_ready
    waits k lt new = unready (is_checked machine k) (list_all (is_first_fault machine) (workload.deps k)) new (none k lt)

    unmade : (k : ℕ) → k < workload.count → is_checked machine k ≡ false → ((d : ℕ) → d < k → d < workload.count → is_first_fault machine d ≡ is_made_so_far workload schedule d) → is_made_so_far workload schedule k ≡ false
    unmade k lt new before = elim (cases_Bool (is_made_so_far workload schedule k)) [
      | inl made ↦
          let all : list_all (is_made_so_far workload schedule) (workload.deps k) ≡ true = step.stepwise.after_deps schedule.ended k lt made in
          let first_fault : list_all (is_first_fault machine) (workload.deps k) ≡ list_all (is_made_so_far workload schedule) (workload.deps k) =
          list_all_same (is_first_fault machine) (is_made_so_far workload schedule) k (λ d low. before d low (omega (arith, low, lt))) (workload.deps k) (step.stepwise.before k lt) in
          absurd (true≢false (sym (first_fault ∙ all) ∙ waits k lt new))
      | inr fails ↦ fails
    ]

    -- where no check is due what is noted is what is made
    pub first_fault_is_made : (k : ℕ) → k < workload.count → is_first_fault machine k ≡ is_made_so_far workload schedule k
    first_fault_is_made =
        by_all_below (λ k. k < workload.count → is_first_fault machine k ≡ is_made_so_far workload schedule k)
        (λ k before lt. elim (cases_Bool (is_checked machine k)) [
          | inl is ↦ step.made k lt ∙ ap (λ b. b && is_made_so_far workload schedule k) is
          | inr new ↦ step.made k lt ∙ ap (λ b. b && is_made_so_far workload schedule k) new ∙ sym (unmade k lt new before)
        ])

    -- and what is ready is what may be started
    pub ready_startable : (k : ℕ) → k < workload.count → has machine.ready k ≡ is_startable workload schedule k
    unfolding is_startable
    ready_startable k lt =
        step.ready k lt
        ∙ ready_one (is_checked machine k) (is_taken schedule k) (is_first_fault machine k) (is_made_so_far workload schedule k) (list_all (is_made_so_far workload schedule) (workload.deps k)) (step.free k lt)
        (λ new. sym (list_all_same (is_first_fault machine) (is_made_so_far workload schedule) workload.count first_fault_is_made (workload.deps k) (deps_below workload step.stepwise k lt)) ∙ waits k lt new)
        (first_fault_is_made k lt)

  running_count : length machine.children.items ≡ length schedule.running
  running_count = sym (ap (λ (xs : List RunningChild). length xs) step.running ∙ length-map machine.children.items running_child)

  no_due : check_of machine ≡ None → machine.is_stopped ≡ false → (k : ℕ) → k < workload.count → is_ready workload.deps (λ at. not (is_checked machine at)) (is_first_fault machine) k ≡ false
  unfolding check_of
  no_due h on k lt =
      sym (listed_ready k lt)
      ∙ none_passes (is_listed machine.later) 0 (files_of machine) (sym (cond-false machine.is_stopped None (first_from (is_listed machine.later) 0 (files_of machine)) on) ∙ h) k (omega arith) (omega (arith, lt, step.count))

  -- where no check is due a file that wasn't checked wasn't started, and isn't made
  pub unchecked_idle : (is : Step) → is_stopped_in machine ≡ false → next_of machine ≡ Run is → (at : ℕ) → at < files_of machine → is_checked machine at ≡ false → (is_taken schedule at ≡ false) × (is_made_so_far workload schedule at ≡ false)
  unfolding is_stopped_in
  unchecked_idle is on h at lt new =
      let low : at < workload.count = omega (arith, lt, step.count) in
      let none = no_due (run_parts machine is h).0 on in
      (step.untaken at low new, sym (first_fault_is_made none at low) ∙ step.made at low ∙ ap (λ b. b && is_made_so_far workload schedule at) new)

  halted_both : (h s : Bool) → s ≡ true → (h || s) ≡ true
  halted_both true s is = refl
  halted_both false s is = is

  shut : (free halted : Bool) → halted ≡ true → (free && not halted) ≡ false
  shut true halted is = ap not is
  shut false halted is = refl

  -- the position that the machine would start is the one to be started now
  pub candidate_same : check_of machine ≡ None → candidate_of machine ≡ start_now workload schedule
  unfolding candidate_of next_start
  candidate_same h = elim (cases_Bool machine.is_stopped) [
    | inl stopped ↦
        let halts : (machine.is_halted || machine.is_stopped) ≡ true = halted_both machine.is_halted machine.is_stopped stopped in
        cond-false (nat_lt (length machine.children.items) machine.limit && not (machine.is_halted || machine.is_stopped)) (first_from (has machine.ready) 0 (files_of machine)) None
        (shut (nat_lt (length machine.children.items) machine.limit) (machine.is_halted || machine.is_stopped) halts)
        ∙ sym (cond-false (nat_lt (length schedule.running) workload.slots && not schedule.halted) (first_from (is_startable workload schedule) 0 workload.count) None
        (shut (nat_lt (length schedule.running) workload.slots) schedule.halted (step.halted ∙ halts)))
    | inr on ↦
        ap (λ n. cond (nat_lt n machine.limit && not (machine.is_halted || machine.is_stopped)) (first_from (has machine.ready) 0 (files_of machine)) None) running_count
        ∙ ap (λ n. cond (nat_lt (length schedule.running) n && not (machine.is_halted || machine.is_stopped)) (first_from (has machine.ready) 0 (files_of machine)) None) (sym step.slots)
        ∙ ap (λ b. cond (nat_lt (length schedule.running) workload.slots && not b) (first_from (has machine.ready) 0 (files_of machine)) None) (sym step.halted)
        ∙ ap (λ n. cond (nat_lt (length schedule.running) workload.slots && not schedule.halted) (first_from (has machine.ready) 0 n) None) (sym step.count)
        ∙ ap (λ o. cond (nat_lt (length schedule.running) workload.slots && not schedule.halted) o None)
        (first_same (has machine.ready) (is_startable workload schedule) 0 workload.count (λ k a b. ready_startable (no_due h on) k (omega arith)))
  ]

  pub run_in_step : (is : Step) → next_of machine ≡ Run is → is ≡ step_at workload schedule
  unfolding step_at
  run_in_step is h =
      let parts = run_parts machine is h in
      sym parts.1 ∙ ap (λ o. step_of o (length machine.children.items == 0)) (candidate_same parts.0) ∙ ap (λ n. step_of (start_now workload schedule) (n == 0)) running_count

  pub lawful_start : (at : ℕ) → next_of machine ≡ Run (Start at) → start_now workload schedule ≡ Some at
  lawful_start at h = let parts = run_parts machine (Start at) h in sym (candidate_same parts.0) ∙ step_starts (candidate_of machine) (length machine.children.items == 0) at parts.1

  pub greedy_end : next_of machine ≡ Run Wait → start_now workload schedule ≡ None
  greedy_end h = let parts = run_parts machine Wait h in sym (candidate_same parts.0) ∙ (step_waits (candidate_of machine) (length machine.children.items == 0) parts.1).0

  -- where nothing is to be started and no child runs, the build is finished
  pub finished_is : next_of machine ≡ Run Finished → IsFinished workload schedule
  finished_is h =
      let parts = run_parts machine Finished h in
      let none : length schedule.running ≡ 0 = sym running_count ∙ end_runs machine h in
      record {
        idle = no_running schedule.running none;
        over = over_none schedule.halted (length schedule.running) workload.slots (next_start workload schedule) none (omega (arith, step.slots, machine.some))
            (sym (candidate_same parts.0) ∙ (step_ends (candidate_of machine) (length machine.children.items == 0) parts.1).0);
      }

-- a file that is started was checked
pub start_checked : (machine : BuildScheduler) (workload : Workload) (schedule : SchedulerState) → IsMachineOf machine workload schedule → (at : ℕ) → IsStart machine at → is_checked machine at ≡ true
start_checked machine workload schedule step at start = (and_parts (is_checked machine at) (not (is_taken schedule at) && not (is_first_fault machine at)) (sym (step.ready at (omega (arith, start.within, step.count))) ∙ start.ready)).0

-- ## One call on

pub or_true : (h : Bool) → (h || true) ≡ true
or_true true = refl
or_true false = refl

pub halt_refused : (h n : Bool) → n ≡ false → (h || (not n && not false)) ≡ true
halt_refused true n is = refl
halt_refused false n is = ap (λ b. not b && not false) is

pub no_halt : (h n : Bool) → n ≡ true → (h || (not n && not false)) ≡ h
no_halt true n is = refl
no_halt false n is = ap (λ b. not b && not false) is

-- the lists and the taken positions are unchanged; each checked file is made exactly if it was before, and a made file stays
-- made
pub in_step_as : (old new : BuildScheduler) (workload : Workload) (schedule next : SchedulerState) → new.checked.items ≡ old.checked.items → new.made.items ≡ old.made.items → new.later ≡ old.later → new.ready ≡ old.ready → new.limit ≡ old.limit
    → new.keep_going ≡ old.keep_going → next.taken ≡ schedule.taken → ((k : ℕ) → k < workload.count → is_checked old k ≡ true → is_made_so_far workload next k ≡ is_made_so_far workload schedule k)
    → ((k : ℕ) → k < workload.count → is_made_so_far workload schedule k ≡ true → is_made_so_far workload next k ≡ true)
    → next.running ≡ map running_child new.children.items → All (λ child. is_checked old child.position ≡ true) new.children.items → next.halted ≡ (new.is_halted || new.is_stopped) → IsMachineOf old workload schedule → IsMachineOf new workload next
unfolding is_checked is_first_fault files_of
in_step_as old new workload schedule next ch m l r limit keep taken made grows running started halted step =
    let same_checked : (k : ℕ) → get_or new.checked.items k false ≡ get_or old.checked.items k false = λ k. ap (λ xs. get_or xs k false) ch in
    let same_made : (k : ℕ) → get_or new.made.items k false ≡ get_or old.made.items k false = λ k. ap (λ xs. get_or xs k false) m in
    record {
      stepwise = step.stepwise;
      count = step.count ∙ sym (ap (λ (xs : List Bool). length xs) m);
      slots = step.slots ∙ sym limit;
      keep_going = step.keep_going ∙ sym keep;
      halted = halted;
      running = running;
      started = λ k d lt. same_checked (get_or new.children.items k d).position ∙ started k d lt;
      untaken = λ at lt unchecked. ap (λ xs. list_any (λ other. other == at) xs) taken ∙ step.untaken at lt (sym (same_checked at) ∙ unchecked);
      free = λ at lt is. list_all_more (is_made_so_far workload schedule) (is_made_so_far workload next) workload.count grows (workload.deps at) (deps_below workload step.stepwise at lt) (step.free at lt (sym (same_checked at) ∙ is));
      made = λ at lt. same_made at ∙ step.made at lt ∙ elim (cases_Bool (get_or old.checked.items at false)) [
        | inl is ↦ ap (λ b. get_or old.checked.items at false && b) (sym (made at lt is)) ∙ ap (λ b. b && is_made_so_far workload next at) (sym (same_checked at))
        | inr unchecked ↦ ap (λ b. b && is_made_so_far workload schedule at) unchecked ∙ sym (ap (λ b. b && is_made_so_far workload next at) (same_checked at ∙ unchecked))
      ];
      later = subst (λ later. AreWaitingFiles later workload.count workload.deps (λ at. not (get_or new.checked.items at false)) (λ at. get_or new.made.items at false)) (sym l)
          (subst (λ (xs : List Bool). AreWaitingFiles old.later workload.count workload.deps (λ at. not (get_or xs at false)) (λ at. get_or new.made.items at false)) (sym ch)
          (subst (λ (xs : List Bool). AreWaitingFiles old.later workload.count workload.deps (λ at. not (get_or old.checked.items at false)) (λ at. get_or xs at false)) (sym m) step.later));
      ready = λ at lt. ap (λ set. has set at) r ∙ step.ready at lt ∙ ap (λ b. b && (not (is_taken schedule at) && not (get_or old.made.items at false))) (sym (same_checked at))
          ∙ ap (λ b. get_or new.checked.items at false && (not b && not (get_or old.made.items at false))) (sym (ap (λ xs. list_any (λ other. other == at) xs) taken))
          ∙ ap (λ b. get_or new.checked.items at false && (not (is_taken next at) && not b)) (sym (same_made at));
    }

-- what an end makes of a checked file
pub made_by_end : (machine : BuildScheduler) (workload : Workload) (schedule : SchedulerState) → IsMachineOf machine workload schedule → (end : EndedChild) (k : ℕ) → k < workload.count → is_checked machine k ≡ true
    → workload.is_made (schedule.ended ++ end ∷ []) k ≡ (is_made_so_far workload schedule k || (end.position == k && end.ok))
made_by_end machine workload schedule step end k lt is = step.stepwise.by_end schedule.ended end k lt (step.free k lt is)

pub made_grows : (workload : Workload) → IsStepwise workload → (ended : List EndedChild) (end : EndedChild) (k : ℕ) → k < workload.count → workload.is_made ended k ≡ true → workload.is_made (ended ++ end ∷ []) k ≡ true
made_grows workload wise ended end k lt made = wise.by_end ended end k lt (wise.after_deps ended k lt made) ∙ or_left (workload.is_made ended k) (end.position == k && end.ok) made

pub no_end : (m e : Bool) → (m || (e && false)) ≡ m
no_end true e = refl
no_end false true = refl
no_end false false = refl

-- a refusal makes nothing
pub in_step_refused : (old new : BuildScheduler) (workload : Workload) (schedule : SchedulerState) (at : ℕ) (output : List ℕ) → new.checked.items ≡ old.checked.items → new.made.items ≡ old.made.items → new.later ≡ old.later → new.ready ≡ old.ready → new.limit ≡ old.limit
    → new.keep_going ≡ old.keep_going → new.children.items ≡ old.children.items → (schedule.halted || (not workload.keep_going && not false)) ≡ (new.is_halted || new.is_stopped) → IsMachineOf old workload schedule → IsMachineOf new workload (with_end workload schedule at false output)
in_step_refused old new workload schedule at output ch m l r limit keep children halted step =
    let end : EndedChild = record { position = at; ok = false; output = output } in
    in_step_as old new workload schedule (with_end workload schedule at false output) ch m l r limit keep refl (λ k lt is. made_by_end old workload schedule step end k lt is ∙ no_end (is_made_so_far workload schedule k) (at == k)) (λ k lt made. made_grows workload step.stepwise schedule.ended end k lt made)
    (step.running ∙ ap (map running_child) (sym children)) (subst (λ (xs : List Child). All (λ child. is_checked old child.position ≡ true) xs) (sym children) step.started) halted step

less_ready : (c t n e : Bool) → ((c && (not t && not n)) && not e) ≡ (c && (not t && not (n || e)))
less_ready true true n e = refl
less_ready true false true e = refl
less_ready true false false e = refl
less_ready false t n e = refl

or_end : (c m e : Bool) → (e ≡ true → c ≡ true) → ((c && m) || e) ≡ (c && (m || (e && true)))
or_end true true e is = refl
or_end true false true is = refl
or_end true false false is = refl
or_end false m true is = absurd (false≢true (is refl))
or_end false m false is = refl

here_is : (P : ℕ → Bool) (at k : ℕ) → P at ≡ true → (at == k) ≡ true → P k ≡ true
here_is P at k is e = subst (λ i. P i ≡ true) (eqb-true at k e) is

kept_halt : (h n : Bool) → (h || (n && false)) ≡ h
kept_halt true n = refl
kept_halt false true = refl
kept_halt false false = refl

-- the child of a checked file has ended well
pub in_step_made : (old new : BuildScheduler) (workload : Workload) (schedule : SchedulerState) (at : ℕ) (output : List ℕ) → at < files_of old → is_checked old at ≡ true → new.checked.items ≡ old.checked.items → new.made.items ≡ set old.made.items at true
    → ((count : ℕ) (deps : ℕ → List ℕ) (waits : ℕ → Bool) → AreWaitingFiles old.later count deps waits (λ k. get_or old.made.items k false) → AreWaitingFiles new.later count deps waits (λ k. get_or new.made.items k false))
    → ((k : ℕ) → has new.ready k ≡ (has old.ready k && not (at == k))) → new.limit ≡ old.limit → new.keep_going ≡ old.keep_going → new.children.items ≡ old.children.items → (new.is_halted || new.is_stopped) ≡ (old.is_halted || old.is_stopped)
    → IsMachineOf old workload schedule → IsMachineOf new workload (with_end workload schedule at true output)
unfolding is_checked is_first_fault files_of
in_step_made old new workload schedule at output lt here ch m l r limit keep children halted step =
    let end : EndedChild = record { position = at; ok = true; output = output } in
    let next : SchedulerState = with_end workload schedule at true output in
    let same_checked : (k : ℕ) → get_or new.checked.items k false ≡ get_or old.checked.items k false = λ k. ap (λ xs. get_or xs k false) ch in
    let one_more : (k : ℕ) → get_or new.made.items k false ≡ (get_or old.made.items k false || (at == k)) = λ k. ap (λ xs. get_or xs k false) m ∙ set_test old.made.items at k lt in
    record {
      stepwise = step.stepwise;
      count = step.count ∙ sym (ap (λ (xs : List Bool). length xs) m ∙ length-set old.made.items at true);
      slots = step.slots ∙ sym limit;
      keep_going = step.keep_going ∙ sym keep;
      halted = kept_halt schedule.halted (not workload.keep_going) ∙ step.halted ∙ sym halted;
      running = step.running ∙ ap (map running_child) (sym children);
      started = λ k d low. same_checked (get_or new.children.items k d).position ∙ subst (λ (xs : List Child). All (λ child. get_or old.checked.items child.position false ≡ true) xs) (sym children) step.started k d low;
      untaken = λ k low unchecked. step.untaken k low (sym (same_checked k) ∙ unchecked);
      free = λ k low is. list_all_more (is_made_so_far workload schedule) (is_made_so_far workload next) workload.count (λ d a made. made_grows workload step.stepwise schedule.ended end d a made) (workload.deps k) (deps_below workload step.stepwise k low)
          (step.free k low (sym (same_checked k) ∙ is));
      made = λ k low. one_more k ∙ ap (λ b. b || (at == k)) (step.made k low)
          ∙ or_end (get_or old.checked.items k false) (is_made_so_far workload schedule k) (at == k) (here_is (λ i. get_or old.checked.items i false) at k here)
          ∙ elim (cases_Bool (get_or old.checked.items k false)) [
            | inl is ↦ ap (λ b. get_or old.checked.items k false && b) (sym (made_by_end old workload schedule step end k low is)) ∙ ap (λ b. b && is_made_so_far workload next k) (sym (same_checked k))
            | inr unchecked ↦ ap (λ b. b && (is_made_so_far workload schedule k || ((at == k) && true))) unchecked ∙ sym (ap (λ b. b && is_made_so_far workload next k) (same_checked k ∙ unchecked))
          ];
      later = subst (λ (xs : List Bool). AreWaitingFiles new.later workload.count workload.deps (λ k. not (get_or xs k false)) (λ k. get_or new.made.items k false)) (sym ch) (l workload.count workload.deps (λ k. not (get_or old.checked.items k false)) step.later);
      ready = λ k low. r k ∙ ap (λ b. b && not (at == k)) (step.ready k low) ∙ less_ready (get_or old.checked.items k false) (is_taken schedule k) (get_or old.made.items k false) (at == k)
          ∙ ap (λ b. get_or old.checked.items k false && (not (is_taken schedule k) && not b)) (sym (one_more k)) ∙ ap (λ b. b && (not (is_taken schedule k) && not (get_or new.made.items k false))) (sym (same_checked k));
    }

taken_after : (schedule : SchedulerState) (at k : ℕ) → list_any (λ other. other == k) (schedule.taken ++ at ∷ []) ≡ (is_taken schedule k || (at == k))
taken_after schedule at k = list_any-append (λ other. other == k) schedule.taken (at ∷ []) ∙ or_false (is_taken schedule k) (at == k)
  where
    or_false : (x e : Bool) → (x || (e || false)) ≡ (x || e)
    or_false true e = refl
    or_false false true = refl
    or_false false false = refl

less_started : (c t n e : Bool) → ((c && (not t && not n)) && not e) ≡ (c && (not (t || e) && not n))
less_started true true n e = refl
less_started true false true true = refl
less_started true false true false = refl
less_started true false false true = refl
less_started true false false false = refl
less_started false t n e = refl

other_taken : (t e c : Bool) → (e ≡ true → c ≡ true) → c ≡ false → t ≡ false → (t || e) ≡ false
other_taken t true c is unchecked was = absurd (true≢false (sym (is refl) ∙ unchecked))
other_taken t false c is unchecked was = ap (λ b. b || false) was

-- a file is started
pub in_step_started : (old new : BuildScheduler) (workload : Workload) (schedule : SchedulerState) (at ticket : ℕ) → is_checked old at ≡ true → new.checked.items ≡ old.checked.items → new.made.items ≡ old.made.items → new.later ≡ old.later
    → ((k : ℕ) → has new.ready k ≡ (has old.ready k && not (at == k))) → new.limit ≡ old.limit → new.keep_going ≡ old.keep_going → new.children.items ≡ old.children.items ++ (record { ticket = ticket; position = at }) ∷ []
    → (new.is_halted || new.is_stopped) ≡ (old.is_halted || old.is_stopped) → IsMachineOf old workload schedule → IsMachineOf new workload (after_move workload schedule (Starts at ticket))
unfolding after_move is_checked is_first_fault files_of
in_step_started old new workload schedule at ticket here ch m l r limit keep children halted step =
    let same_checked : (k : ℕ) → get_or new.checked.items k false ≡ get_or old.checked.items k false = λ k. ap (λ xs. get_or xs k false) ch in
    let same_made : (k : ℕ) → get_or new.made.items k false ≡ get_or old.made.items k false = λ k. ap (λ xs. get_or xs k false) m in
    record {
      stepwise = step.stepwise;
      count = step.count ∙ sym (ap (λ (xs : List Bool). length xs) m);
      slots = step.slots ∙ sym limit;
      keep_going = step.keep_going ∙ sym keep;
      halted = step.halted ∙ sym halted;
      running = ap (λ running. running ++ (record { ticket = ticket; position = at }) ∷ []) step.running
          ∙ sym (map-append running_child old.children.items ((record { ticket = ticket; position = at }) ∷ [])) ∙ ap (map running_child) (sym children);
      started = λ k d low. same_checked (get_or new.children.items k d).position
          ∙ subst (λ (xs : List Child). All (λ child. get_or old.checked.items child.position false ≡ true) xs) (sym children)
          (All-push (λ (child : Child). get_or old.checked.items child.position false ≡ true) old.children.items (record { ticket = ticket; position = at }) step.started here) k d low;
      untaken = λ k low unchecked. taken_after schedule at k ∙ other_taken (is_taken schedule k) (at == k) (get_or old.checked.items k false) (here_is (λ i. get_or old.checked.items i false) at k here) (sym (same_checked k) ∙ unchecked)
          (step.untaken k low (sym (same_checked k) ∙ unchecked));
      free = λ k low is. step.free k low (sym (same_checked k) ∙ is);
      made = λ k low. same_made k ∙ step.made k low ∙ ap (λ b. b && is_made_so_far workload schedule k) (sym (same_checked k));
      later = subst (λ later. AreWaitingFiles later workload.count workload.deps (λ at. not (get_or new.checked.items at false)) (λ at. get_or new.made.items at false)) (sym l)
          (subst (λ (xs : List Bool). AreWaitingFiles old.later workload.count workload.deps (λ at. not (get_or xs at false)) (λ at. get_or new.made.items at false)) (sym ch)
          (subst (λ (xs : List Bool). AreWaitingFiles old.later workload.count workload.deps (λ at. not (get_or old.checked.items at false)) (λ at. get_or xs at false)) (sym m) step.later));
      ready = λ k low. r k ∙ ap (λ b. b && not (at == k)) (step.ready k low) ∙ less_started (get_or old.checked.items k false) (is_taken schedule k) (get_or old.made.items k false) (at == k)
          ∙ ap (λ b. get_or old.checked.items k false && (not b && not (get_or old.made.items k false))) (sym (taken_after schedule at k))
          ∙ ap₂ (λ (a b : Bool). a && (not (list_any (λ other. other == k) (schedule.taken ++ at ∷ [])) && not b)) (sym (same_checked k)) (sym (same_made k));
    }

not_or : (a e : Bool) → not (a || e) ≡ (not a && not e)
not_or true e = refl
not_or false e = refl

or_and : (x : Bool) → ((x || true) && true) ≡ true
or_and true = refl
or_and false = refl

check_made : (c m e : Bool) → (e ≡ true → m ≡ true) → ((c && m) || e) ≡ ((c || e) && m)
check_made c m true is = or_true (c && m) ∙ sym (ap (λ b. (c || true) && b) (is refl) ∙ or_and c)
check_made true true false is = refl
check_made true false false is = refl
check_made false m false is = refl

check_unmade : (c m e : Bool) → (e ≡ true → m ≡ false) → (c && m) ≡ ((c || e) && m)
check_unmade true m e is = refl
check_unmade false true true is = sym (is refl)
check_unmade false true false is = refl
check_unmade false false true is = refl
check_unmade false false false is = refl

check_ready_made : (c t n e : Bool) → ((c && (not t && not n)) && not e) ≡ ((c || e) && (not t && not (n || e)))
check_ready_made true true n e = refl
check_ready_made true false true e = refl
check_ready_made true false false true = refl
check_ready_made true false false false = refl
check_ready_made false true n true = refl
check_ready_made false true n false = refl
check_ready_made false false true true = refl
check_ready_made false false true false = refl
check_ready_made false false false true = refl
check_ready_made false false false false = refl

check_ready : (c t n e : Bool) → (e ≡ true → (t ≡ false) × (n ≡ false)) → ((c && (not t && not n)) || e) ≡ ((c || e) && (not t && not n))
check_ready c t n true is = or_true (c && (not t && not n)) ∙ sym (ap₂ (λ (a b : Bool). (c || true) && (not a && not b)) (is refl).0 (is refl).1 ∙ or_and c)
check_ready true t n false is = or_false (not t && not n)
  where
    or_false : (x : Bool) → (x || false) ≡ x
    or_false true = refl
    or_false false = refl
check_ready false t n false is = refl

or_left_false : (c e : Bool) → (c || e) ≡ false → c ≡ false
or_left_false true e h = h
or_left_false false e h = refl

checked_cases : (c e : Bool) → (c || e) ≡ true → (c ≡ false → e ≡ true)
checked_cases true e h unchecked = absurd (true≢false unchecked)
checked_cases false e h unchecked = h

here_not : (P : ℕ → Bool) (at k : ℕ) → P at ≡ false → (at == k) ≡ true → P k ≡ false
here_not P at k is e = subst (λ i. P i ≡ false) (eqb-true at k e) is

pub and_true : (x : Bool) → (x && true) ≡ x
and_true true = refl
and_true false = refl

made_one : (c m n e f : Bool) → n ≡ (c && m) → (e ≡ true → m ≡ f) → (n || (e && f)) ≡ ((c || e) && m)
made_one c m n e true is same = ap₂ (λ (a b : Bool). a || b) is (and_true e) ∙ check_made c m e same
made_one c m n e false is same = ap (λ b. b || (e && false)) is ∙ no_end (c && m) e ∙ check_unmade c m e same

ready_checked : (h c t n e f : Bool) → h ≡ (c && (not t && not n)) → (e ≡ true → (t ≡ false) × (n ≡ false)) → cond f (h && not e) (h || e) ≡ ((c || e) && (not t && not (n || (e && f))))
ready_checked h c t n e true is new = ap (λ b. b && not e) is ∙ check_ready_made c t n e ∙ ap (λ b. (c || e) && (not t && not (n || b))) (sym (and_true e))
ready_checked h c t n e false is new = ap (λ b. b || e) is ∙ check_ready c t n e new ∙ ap (λ b. (c || e) && (not t && not b)) (sym (no_end n e))

-- one file less wants a check
pub waits_less : (checked : List Bool) (at : ℕ) → at < length checked → (k : ℕ) → not (get_or (set checked at true) k false) ≡ (not (get_or checked k false) && not (at == k))
waits_less checked at lt k = ap not (set_test checked at k lt) ∙ not_or (get_or checked k false) (at == k)

-- a file was checked that is current, or isn't: `f` says whether it is
pub in_step_checked : (old new : BuildScheduler) (workload : Workload) (schedule : SchedulerState) (at : ℕ) (f : Bool) → IsCheck old at → length old.checked.items ≡ length old.made.items → f ≡ is_made_so_far workload schedule at → new.checked.items ≡ set old.checked.items at true
    → ((k : ℕ) → is_first_fault new k ≡ (is_first_fault old k || ((at == k) && f)))
    → length new.made.items ≡ length old.made.items
    → AreWaitingFiles new.later workload.count workload.deps (λ k. not (is_checked new k)) (is_first_fault new)
    → ((k : ℕ) → has new.ready k ≡ cond f (has old.ready k && not (at == k)) (has old.ready k || (at == k))) → new.limit ≡ old.limit → new.keep_going ≡ old.keep_going → new.children.items ≡ old.children.items
    → (new.is_halted || new.is_stopped) ≡ (old.is_halted || old.is_stopped) → IsMachineOf old workload schedule → IsMachineOf new workload schedule
unfolding is_checked is_first_fault files_of
in_step_checked old new workload schedule at f check many says ch m count l r limit keep children halted step =
    let lt : at < workload.count = omega (arith, check.within, step.count) in
    let is_free = check_free old workload schedule step at check in
    let one_checked : (k : ℕ) → get_or new.checked.items k false ≡ (get_or old.checked.items k false || (at == k)) = λ k. ap (λ xs. get_or xs k false) ch ∙ set_test old.checked.items at k (omega (arith, check.within, many)) in
    let new_here : (k : ℕ) → (at == k) ≡ true → (is_taken schedule k ≡ false) × (get_or old.made.items k false ≡ false) =
    λ k e. (here_not (is_taken schedule) at k is_free.1 e, here_not (λ i. get_or old.made.items i false) at k (step.made at lt ∙ ap (λ b. b && is_made_so_far workload schedule at) is_free.0) e) in
    let made_here : (k : ℕ) → (at == k) ≡ true → is_made_so_far workload schedule k ≡ f = λ k e. ap (is_made_so_far workload schedule) (sym (eqb-true at k e)) ∙ sym says in
    record {
      stepwise = step.stepwise;
      count = step.count ∙ sym count;
      slots = step.slots ∙ sym limit;
      keep_going = step.keep_going ∙ sym keep;
      halted = step.halted ∙ sym halted;
      running = step.running ∙ ap (map running_child) (sym children);
      started = λ k d low. one_checked (get_or new.children.items k d).position
          ∙ or_left (get_or old.checked.items (get_or new.children.items k d).position false) (at == (get_or new.children.items k d).position)
          (subst (λ (xs : List Child). All (λ child. get_or old.checked.items child.position false ≡ true) xs) (sym children) step.started k d low);
      untaken = λ k low unchecked. step.untaken k low (or_left_false (get_or old.checked.items k false) (at == k) (sym (one_checked k) ∙ unchecked));
      free = λ k low is. elim (cases_Bool (get_or old.checked.items k false)) [
        | inl was ↦ step.free k low was
        | inr unchecked ↦ here_is (λ i. list_all (is_made_so_far workload schedule) (workload.deps i)) at k is_free.2 (checked_cases (get_or old.checked.items k false) (at == k) (sym (one_checked k) ∙ is) unchecked)
      ];
      made = λ k low. m k ∙ made_one (get_or old.checked.items k false) (is_made_so_far workload schedule k) (get_or old.made.items k false) (at == k) f (step.made k low) (made_here k)
          ∙ ap (λ b. b && is_made_so_far workload schedule k) (sym (one_checked k));
      later = l;
      ready = λ k low. r k ∙ ready_checked (has old.ready k) (get_or old.checked.items k false) (is_taken schedule k) (get_or old.made.items k false) (at == k) f (step.ready k low) (new_here k)
          ∙ ap₂ (λ (a b : Bool). a && (not (is_taken schedule k) && not b)) (sym (one_checked k)) (sym (m k));
    }

-- ## Fewer calls to come

last_stop : (b : Bool) → cond {A = ℕ} true 0 1 ≤ cond {A = ℕ} b 0 1
last_stop true = omega arith
last_stop false = omega arith

-- what each call leaves of the parts of the count
pub nearer_by : (old new : BuildScheduler) → wait_count new.later ≤ wait_count old.later → count_in new.ready (files_of new) ≤ count_in old.ready (files_of old) → length new.children.items ≤ length old.children.items
    → cond {A = ℕ} new.is_stopped 0 1 ≤ cond {A = ℕ} old.is_stopped 0 1 → to_come new ≤ to_come old
unfolding to_come
nearer_by old new w r l s = omega (arith, w, r, l, s)

pub nearer_end : (old new : BuildScheduler) → wait_count new.later ≤ wait_count old.later → count_in new.ready (files_of new) ≤ count_in old.ready (files_of old) → length new.children.items + 1 ≡ length old.children.items
    → cond {A = ℕ} new.is_stopped 0 1 ≤ cond {A = ℕ} old.is_stopped 0 1 → to_come new < to_come old
unfolding to_come
nearer_end old new w r l s = omega (arith, w, r, l, s)

pub nearer_start : (old new : BuildScheduler) → wait_count new.later ≤ wait_count old.later → count_in new.ready (files_of new) + 1 ≡ count_in old.ready (files_of old) → length new.children.items ≡ length old.children.items + 1
    → cond {A = ℕ} new.is_stopped 0 1 ≤ cond {A = ℕ} old.is_stopped 0 1 → to_come new < to_come old
unfolding to_come
nearer_start old new w r l s = omega (arith, w, r, l, s)

pub nearer_check : (old new : BuildScheduler) → wait_count new.later + 1 ≡ wait_count old.later → count_in new.ready (files_of new) ≤ count_in old.ready (files_of old) + 1 → length new.children.items ≤ length old.children.items
    → cond {A = ℕ} new.is_stopped 0 1 ≤ cond {A = ℕ} old.is_stopped 0 1 → to_come new < to_come old
unfolding to_come
nearer_check old new w r l s = omega (arith, w, r, l, s)

pub nearer_stop : (old new : BuildScheduler) → wait_count new.later ≤ wait_count old.later → count_in new.ready (files_of new) ≤ count_in old.ready (files_of old) → length new.children.items ≤ length old.children.items → new.is_stopped ≡ true → old.is_stopped ≡ false
    → to_come new < to_come old
unfolding to_come
nearer_stop old new w r l is was =
    let a : cond {A = ℕ} new.is_stopped 0 1 ≡ 0 = cond-true new.is_stopped 0 1 is in
    let b : cond {A = ℕ} old.is_stopped 0 1 ≡ 1 = cond-false old.is_stopped 0 1 was in
    omega (arith, w, r, l, a, b)

pub stopped_last : (b : Bool) → cond {A = ℕ} true 0 1 ≤ cond {A = ℕ} b 0 1
stopped_last = last_stop
