-- What a fault halts: what a machine is in step with, event after event.
use Rattle.std.proofs.Common.{◌≡◌, ℕ, Bool, true, false, not, ◌||◌, ◌&&◌, ltb, length, Some, None, refl, sym, ap, ◌∙◌}
use Rattle.std.proofs.lemmas.Bool.{cond-false}
use Rattle.std.proofs.lemmas.Option.{none-some}
use Rattle.run_spec.specs.Moves.{Workload, SchedulerState, Move, Starts, Ends, Loses, Halts, next_start, start_now, after_move, is_startable}
use Rattle.run_spec.specs.Steps.{halted_if}

or_false : (b : Bool) → (b || false) ≡ b
or_false true = refl
or_false false = refl

or_true : (b : Bool) → (b || true) ≡ true
or_true true = refl
or_true false = refl

or_swap : (a b c : Bool) → ((a || b) || c) ≡ ((a || c) || b)
or_swap true b c = refl
or_swap false true true = refl
or_swap false true false = refl
or_swap false false true = refl
or_swap false false false = refl

-- nothing else halts it
pub halted_not : (schedule : SchedulerState) → halted_if false schedule ≡ schedule
halted_not schedule = ap (λ (b : Bool). record { taken = schedule.taken; running = schedule.running; ended = schedule.ended; halted = b }) (or_false schedule.halted)

-- a move comes after what halts it
pub halted_after : (workload : Workload) (halts : Bool) (schedule : SchedulerState) (move : Move) → after_move workload (halted_if halts schedule) move ≡ halted_if halts (after_move workload schedule move)
unfolding after_move
halted_after workload halts schedule (Starts position ticket) = refl
halted_after workload halts schedule (Ends ticket ok output) =
    ap (λ (b : Bool). record (after_move workload schedule (Ends ticket ok output)) { halted = b }) (or_swap schedule.halted halts (not workload.keep_going && not ok))
halted_after workload halts schedule (Loses ticket) = refl
halted_after workload halts schedule Halts = refl

-- a fault halts it
pub halts_now : (workload : Workload) (halts : Bool) (schedule : SchedulerState) → after_move workload (halted_if halts schedule) Halts ≡ halted_if true schedule
unfolding after_move
halts_now workload halts schedule = ap (λ (b : Bool). record { taken = schedule.taken; running = schedule.running; ended = schedule.ended; halted = b }) (sym (or_true schedule.halted))

-- after a lost child it is halted whatever else halts it
pub lost_halts : (workload : Workload) (halts other : Bool) (schedule : SchedulerState) (ticket : ℕ) → after_move workload (halted_if halts schedule) (Loses ticket) ≡ halted_if other (after_move workload schedule (Loses ticket))
unfolding after_move
lost_halts workload halts other schedule ticket = refl

-- a file is to be started only where nothing halts the build
pub start_while : (workload : Workload) (halts : Bool) (schedule : SchedulerState) (position : ℕ) → start_now workload (halted_if halts schedule) ≡ Some position → (halts ≡ false) × (start_now workload schedule ≡ Some position)
unfolding next_start is_startable
start_while workload true schedule position is =
    let free : Bool = ltb (length schedule.running) workload.slots in
    absurd (none-some position (sym (cond-false (free && not (schedule.halted || true)) (next_start workload schedule) None (shut free schedule.halted)) ∙ is)) where
      shut : (free halted : Bool) → (free && not (halted || true)) ≡ false
      shut true true = refl
      shut true false = refl
      shut false halted = refl
start_while workload false schedule position is = (refl, ap (start_now workload) (sym (halted_not schedule)) ∙ is)
