-- What may be started next where nothing depends on anything: the first that wasn't started.
use Rattle.std.proofs.Common.{◌≡◌, ◌≢◌, ℕ, zero, suc, ◌+◌, ◌<◌, ◌≤◌, ◌==◌, nat_lt, Bool, true, false, not, ◌&&◌, ◌||◌, cond, [], ◌∷◌, Some, None, refl, sym, ap, ◌∙◌, arith, inl, inr}
use Rattle.std.specs.List.{list_any, list_all}
use Rattle.std.proofs.lemmas.Bool.{cases_Bool, cases_lt, cond-true, cond-false, ltb-true, eqb-true, eqb-false, lt-ltb}
use Rattle.std.proofs.lemmas.List.Folds.{list_any-append}
use Rattle.base.specs.PresentGraph.{below}
use Rattle.run_spec.specs.Moves.{Workload, SchedulerState, is_taken, is_made_so_far, is_startable, next_start}
use Rattle.run_spec.proofs.Ranks.{first_found, first_none}

pub lt_false : (a b : ℕ) → b ≤ a → nat_lt a b ≡ false
lt_false a b le = elim (cases_Bool (nat_lt a b)) [
  | inl is ↦ absurd (omega (arith, ltb-true a b is))
  | inr is ↦ is
]

or_next : (t e : Bool) (k next : ℕ) → t ≡ nat_lt k next → e ≡ (next == k) → (t || (e || false)) ≡ nat_lt k (next + 1)
or_next true e k next was here = sym (lt-ltb k (next + 1) (omega (arith, ltb-true k next (sym was))))
or_next false true k next was here = sym (lt-ltb k (next + 1) (omega (arith, eqb-true next k (sym here))))
or_next false false k next was here = elim (cases_lt k next) [
  | inl l ↦ absurd (let nothing : ⊥ = (let is : true ≡ false = sym (lt-ltb k next l) ∙ sym was in cc) in nothing)
  | inr l ↦ sym (lt_false k (next + 1) (let other : next ≢ k = eqb-false next k (sym here) in omega (arith, other)))
]

-- a number is below n exactly where it is among the numbers below n
pub below_has : (k n : ℕ) → list_any (λ other. other == k) (below n) ≡ nat_lt k n
unfolding below
below_has k zero = sym (lt_false k zero (omega arith))
below_has k (suc n) = list_any-append (λ other. other == k) (below n) (n ∷ []) ∙ or_next (list_any (λ other. other == k) (below n)) (n == k) k n (below_has k n) refl ∙ ap (nat_lt k) (omega arith)

-- nothing depends on anything; those below a number were started in order, and no other is made
pub record IsInLine (workload : Workload) (schedule : SchedulerState) (next : ℕ) : Type 0 where
  pub deps : (at : ℕ) → workload.deps at ≡ []
  pub taken : schedule.taken ≡ below next
  pub unmade : (at : ℕ) → next ≤ at → is_made_so_far workload schedule at ≡ false

taken_when : (workload : Workload) (schedule : SchedulerState) (next : ℕ) → IsInLine workload schedule next → (k : ℕ) → is_taken schedule k ≡ nat_lt k next
taken_when workload schedule next is k = ap (list_any (λ other. other == k)) is.taken ∙ below_has k next

not_startable : (workload : Workload) (schedule : SchedulerState) (next : ℕ) → IsInLine workload schedule next → (k : ℕ) → k < next → is_startable workload schedule k ≡ false
unfolding is_startable
not_startable workload schedule next is k lt =
    ap (λ t. not t && not (is_made_so_far workload schedule k) && list_all (is_made_so_far workload schedule) (workload.deps k)) (taken_when workload schedule next is k ∙ lt-ltb k next lt)

startable : (workload : Workload) (schedule : SchedulerState) (next : ℕ) → IsInLine workload schedule next → is_startable workload schedule next ≡ true
unfolding is_startable
startable workload schedule next is =
    ap (λ t. not t && not (is_made_so_far workload schedule next) && list_all (is_made_so_far workload schedule) (workload.deps next)) (taken_when workload schedule next is next ∙ lt_false next next (omega arith))
    ∙ ap (λ m. not m && list_all (is_made_so_far workload schedule) (workload.deps next)) (is.unmade next (omega arith))
    ∙ ap (list_all (is_made_so_far workload schedule)) (is.deps next)

-- the first that may be started is the first in line, where one is left
pub first_in_line : (workload : Workload) (schedule : SchedulerState) (next : ℕ) → IsInLine workload schedule next → next_start workload schedule ≡ cond (nat_lt next workload.count) (Some next) None
unfolding next_start
first_in_line workload schedule next is = elim (cases_lt next workload.count) [
  | inl l ↦ first_found (is_startable workload schedule) 0 workload.count next (λ k a b. not_startable workload schedule next is k b) (omega arith) (omega arith) (startable workload schedule next is)
      ∙ sym (cond-true (nat_lt next workload.count) (Some next) None (lt-ltb next workload.count l))
  | inr l ↦ first_none (is_startable workload schedule) 0 workload.count (λ k a b. not_startable workload schedule next is k (omega arith))
      ∙ sym (cond-false (nat_lt next workload.count) (Some next) None (lt_false next workload.count (omega arith)))
]
