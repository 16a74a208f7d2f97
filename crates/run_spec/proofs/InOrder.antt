-- Runs are started in order.
use Rattle.std.proofs.Common.{◌≡◌, ℕ, zero, suc, ◌<◌, ◌≤◌, ◌==◌, nat_lt, Bool, true, false, not, ◌&&◌, ◌||◌, cond, List, [], ◌∷◌, ◌++◌, length, Some, None, refl, sym, ap, subst, ◌∙◌, arith, inl, inr}
use Rattle.std.specs.Prelude.{Option}
use Rattle.std.specs.List.{list_any}
use Rattle.std.proofs.lemmas.Bool.{cases_Bool, cond-true, cond-false, ltb-true, ne_eqb}
use Rattle.std.proofs.lemmas.List.{length-append}
use Rattle.base.specs.PresentGraph.{below}
use Rattle.base.specs.declared.child.Event.{Event}
use Rattle.run_spec.specs.Moves.{Workload, SchedulerState, RunningChild, EndedChild, Move, Starts, Ends, Loses, Halts, empty_schedule, has_ended_well, next_start, start_now, position_of, without_child, ended_child, after_move, after_moves, LawfulMoves}
use Rattle.run_spec.specs.TestJournal.{TestSetting, TestProgress, test_workload, test_moves, after_test, after_tests, empty_tests, progress_of_tests, LawfulTests}
use Rattle.run_spec.proofs.InLine.{IsInLine, first_in_line}

abbrev pub AreLow : List RunningChild → ℕ → Type 0
AreLow [] next = Unit {0}
AreLow (child ∷ children) next = (child.position < next) × AreLow children next

abbrev pub AreLowEnds : List EndedChild → ℕ → Type 0
AreLowEnds [] next = Unit {0}
AreLowEnds (end ∷ ends) next = (end.position < next) × AreLowEnds ends next

low_pushed : (children : List RunningChild) (next ticket : ℕ) → AreLow children next → AreLow (children ++ (record { ticket = ticket; position = next }) ∷ []) (suc next)
low_pushed [] next ticket low = (omega arith, record {})
low_pushed (child ∷ children) next ticket low = (omega (arith, low.0), low_pushed children next ticket low.1)

low_ends_more : (ends : List EndedChild) (next : ℕ) → AreLowEnds ends next → AreLowEnds ends (suc next)
low_ends_more [] next low = record {}
low_ends_more (end ∷ ends) next low = (omega (arith, low.0), low_ends_more ends next low.1)

low_without : (children : List RunningChild) (next ticket : ℕ) → AreLow children next → AreLow (without_child ticket children) next
low_without [] next ticket low = record {}
low_without (child ∷ children) next ticket low = elim (cases_Bool (child.ticket == ticket)) [
  | inl is ↦ subst (λ xs. AreLow xs next) (sym (cond-true (child.ticket == ticket) children (child ∷ without_child ticket children) is)) low.1
  | inr is ↦ subst (λ xs. AreLow xs next) (sym (cond-false (child.ticket == ticket) children (child ∷ without_child ticket children) is)) (low.0, low_without children next ticket low.1)
]

low_position : (children : List RunningChild) (next ticket at : ℕ) → AreLow children next → position_of ticket children ≡ Some at → at < next
low_position [] next ticket at low h = absurd (let nothing : ⊥ = cc in nothing)
low_position (child ∷ children) next ticket at low h = elim (cases_Bool (child.ticket == ticket)) [
  | inl is ↦
      let e : Some child.position ≡ Some at = sym (cond-true (child.ticket == ticket) (Some child.position) (position_of ticket children) is) ∙ h in
      let same : child.position ≡ at = cc in
      omega (arith, low.0, same)
  | inr is ↦ low_position children next ticket at low.1 (sym (cond-false (child.ticket == ticket) (Some child.position) (position_of ticket children) is) ∙ h)
]

low_ended : (ends : List EndedChild) (next : ℕ) (o : Option ℕ) (ok : Bool) (output : List ℕ) → AreLowEnds ends next → ((at : ℕ) → o ≡ Some at → at < next) → AreLowEnds (ends ++ ended_child o ok output) next
low_ended [] next None ok output low of = record {}
low_ended [] next (Some at) ok output low of = (of at refl, record {})
low_ended (end ∷ ends) next o ok output low of = (low.0, low_ended ends next o ok output low.1 of)

unmade_by : (ends : List EndedChild) (next k : ℕ) → AreLowEnds ends next → next ≤ k → has_ended_well ends k ≡ false
unfolding has_ended_well
unmade_by [] next k low le = refl
unmade_by (end ∷ ends) next k low le =
    ap (λ b. (b && end.ok) || list_any (λ (e : EndedChild). (e.position == k) && e.ok) ends) (ne_eqb end.position k (λ e. omega (arith, low.0, e))) ∙ unmade_by ends next k low.1 le

-- the first runs up to `next` were started, in order, and each running or ended child is of one of them
pub record IsInOrder (workload : Workload) (schedule : SchedulerState) (next : ℕ) : Type 0 where
  pub taken : schedule.taken ≡ below next
  pub within : next ≤ workload.count
  pub running : AreLow schedule.running next
  pub ended : AreLowEnds schedule.ended next

in_line : (setting : TestSetting) (schedule : SchedulerState) (next : ℕ) → IsInOrder (test_workload setting) schedule next → IsInLine (test_workload setting) schedule next
in_line setting schedule next is = record { deps = λ at. refl; taken = is.taken; unmade = λ at le. unmade_by schedule.ended next at is.ended le }

start_some : (free : Bool) (o : Option ℕ) (at : ℕ) → cond free o None ≡ Some at → o ≡ Some at
start_some true o at h = h
start_some false o at h = absurd (let nothing : ⊥ = cc in nothing)

left_some : (left : Bool) (next at : ℕ) → cond left (Some next) None ≡ Some at → (left ≡ true) × (next ≡ at)
left_some true next at h = (refl, cc)
left_some false next at h = absurd (let nothing : ⊥ = cc in nothing)

-- a lawful start is that of the first in line
pub starts_next : (setting : TestSetting) (schedule : SchedulerState) (next at : ℕ) → IsInOrder (test_workload setting) schedule next → start_now (test_workload setting) schedule ≡ Some at → (nat_lt next (length setting.plan.runs) ≡ true) × (next ≡ at)
starts_next setting schedule next at is h =
    left_some (nat_lt next (length setting.plan.runs)) next at
    (sym (first_in_line (test_workload setting) schedule next (in_line setting schedule next is)) ∙ start_some (nat_lt (length schedule.running) setting.slots && not schedule.halted) (next_start (test_workload setting) schedule) at h)

pub record HasOrder (workload : Workload) (schedule : SchedulerState) : Type 0 where
  pub next : ℕ
  pub is : IsInOrder workload schedule next

after_orderly : (setting : TestSetting) (schedule : SchedulerState) (next : ℕ) (moves : List Move) → IsInOrder (test_workload setting) schedule next → LawfulMoves (test_workload setting) schedule moves → HasOrder (test_workload setting) (after_moves (test_workload setting) schedule moves)
unfolding LawfulMoves after_moves after_move below
after_orderly setting schedule next [] is lawful = record { next = next; is = is }
after_orderly setting schedule next (Starts at ticket ∷ moves) is lawful =
    let start = starts_next setting schedule next at is lawful.0 in
    after_orderly setting (after_move (test_workload setting) schedule (Starts at ticket)) (suc next) moves
    (subst (λ i. IsInOrder (test_workload setting) (after_move (test_workload setting) schedule (Starts i ticket)) (suc next)) start.1 (record {
      taken = ap (λ xs. xs ++ next ∷ []) is.taken;
      within = omega (arith, ltb-true next (length setting.plan.runs) start.0);
      running = low_pushed schedule.running next ticket is.running;
      ended = low_ends_more schedule.ended next is.ended;
    })) lawful.1
after_orderly setting schedule next (Ends ticket ok output ∷ moves) is lawful =
    after_orderly setting (after_move (test_workload setting) schedule (Ends ticket ok output)) next moves (record {
      taken = is.taken;
      within = is.within;
      running = low_without schedule.running next ticket is.running;
      ended = low_ended schedule.ended next (position_of ticket schedule.running) ok output is.ended (λ at h. low_position schedule.running next ticket at is.running h);
    }) lawful.1
after_orderly setting schedule next (Loses ticket ∷ moves) is lawful =
    after_orderly setting (after_move (test_workload setting) schedule (Loses ticket)) next moves (record {
      taken = is.taken;
      within = is.within;
      running = low_without schedule.running next ticket is.running;
      ended = is.ended;
    }) lawful.1
after_orderly setting schedule next (Halts ∷ moves) is lawful =
    after_orderly setting (after_move (test_workload setting) schedule Halts) next moves (record { taken = is.taken; within = is.within; running = is.running; ended = is.ended }) lawful.1

-- the book's core is what the moves make
pub schedule_after : (setting : TestSetting) (progress : TestProgress) (events : List Event) → (after_tests setting progress events).schedule ≡ after_moves (test_workload setting) progress.schedule (test_moves setting progress events)
unfolding after_tests after_test after_moves test_moves
schedule_after setting progress [] = refl
schedule_after setting progress (event ∷ events) = schedule_after setting (after_test setting progress event) events

pub has_order : (setting : TestSetting) (events : List Event) → LawfulTests setting events → HasOrder (test_workload setting) (progress_of_tests setting events).schedule
unfolding below
has_order setting events lawful =
    subst (HasOrder (test_workload setting)) (sym (schedule_after setting empty_tests events))
    (after_orderly setting empty_schedule 0 (test_moves setting empty_tests events) (record { taken = refl; within = omega arith; running = record {}; ended = record {} }) lawful.moves)

pub length_below : (n : ℕ) → length (below n) ≡ n
unfolding below
length_below zero = refl
length_below (suc n) = length-append (below n) (n ∷ []) ∙ omega (arith, length_below n)
