-- A build's events, and one more: its moves, its requests and its machine.
use Rattle.std.proofs.Common.{◌≡◌, ℕ, Bool, false, eqb, ◌||◌, List, map, [], ◌∷◌, ◌++◌, Option, Some, sym, ap, subst, ◌∙◌, inl, inr}
use Rattle.std.specs.List.{list_any}
use Rattle.std.proofs.lemmas.Bool.{cases_Bool, cond-true, cond-false}
use Rattle.std.proofs.lemmas.Option.{none-some, same_Some}
use Rattle.std.proofs.lemmas.List.Folds.{list_any-append}
use Rattle.base.specs.declared.child.Request.{Request}
use Rattle.base.specs.declared.child.Exit.{Exit}
use Rattle.base.specs.declared.child.Event.{Event}
use Rattle.base.specs.declared.child.Event.TheVariants.{Started, Ended, Gone}
use Rattle.run_spec.specs.Moves.{SchedulerState, empty_schedule, Move, Loses, IsLawfulMove, LawfulMoves, IsGreedyMove, GreedyMoves, after_move, position_of}
use Rattle.run_spec.specs.ChildJournal.{Work, Run, BuildProgress, empty_progress, workload_of, schedule_of, child_of_run, run_of, end_of, after, after_all, progress_of, move_of, moves_after, moves_of, IsRequested, AreRequested, Greedy, is_gone}
use Rattle.run_spec.proofs.Journal.{after_all-append, schedule_after, schedule_after_all, moves-append, LawfulMoves-append, GreedyMoves-append, AreRequested-append}
use Rattle.run_spec.proofs.Artefacts.{stepwise}
use Rattle.base.specs.Graphs.{IsGraph}
use Rattle.run_scheduler.specs.declared.build_scheduler.BuildScheduler.{BuildScheduler}
use Rattle.run_scheduler.specs.Machines.{IsMachineOf}
use Rattle.run_spec.specs.Steps.{halted_if}
use Rattle.run_spec.proofs.Halting.{halted_after, lost_halts}
use Rattle.run_build.proofs.Orderly.{AreOrderly, orderly_at_first, orderly_after}

module _ (s : Work) (events : List Event) where
  abbrev progress : BuildProgress
  progress = progress_of s events

  -- what has happened after one more event
  pub progress_then : (event : Event) → progress_of s (events ++ event ∷ []) ≡ after s progress event
  unfolding after_all
  progress_then event = after_all-append s empty_progress events (event ∷ [])

  pub moves_then : (event : Event) → LawfulMoves (workload_of s) empty_schedule (moves_of s events) → IsLawfulMove (workload_of s) (schedule_of progress) (move_of s progress event) → LawfulMoves (workload_of s) empty_schedule (moves_of s (events ++ event ∷ []))
  unfolding moves_after LawfulMoves
  moves_then event lawful here =
      subst (LawfulMoves (workload_of s) empty_schedule) (sym (moves-append s empty_progress events (event ∷ [])))
      (LawfulMoves-append (workload_of s) empty_schedule (moves_of s events) (move_of s progress event ∷ []) lawful
      (subst (λ (schedule : SchedulerState). LawfulMoves (workload_of s) schedule (move_of s progress event ∷ [])) (schedule_after_all s empty_progress events) (here, tt)))

  pub greedy_then : (event : Event) → Greedy s events → IsGreedyMove (workload_of s) (schedule_of progress) (move_of s progress event) → Greedy s (events ++ event ∷ [])
  unfolding moves_after GreedyMoves
  greedy_then event greedy here =
      subst (GreedyMoves (workload_of s) empty_schedule) (sym (moves-append s empty_progress events (event ∷ [])))
      (GreedyMoves-append (workload_of s) empty_schedule (moves_of s events) (move_of s progress event ∷ []) greedy
      (subst (λ (schedule : SchedulerState). GreedyMoves (workload_of s) schedule (move_of s progress event ∷ [])) (schedule_after_all s empty_progress events) (here, tt)))

  pub requests_then : (event : Event) → AreRequested s empty_progress events → IsRequested s progress event → AreRequested s empty_progress (events ++ event ∷ [])
  unfolding AreRequested
  requests_then event requests here = AreRequested-append s empty_progress events (event ∷ []) requests (here, tt)

  pub none_lost_then : (event : Event) → list_any is_gone events ≡ false → is_gone event ≡ false → list_any is_gone (events ++ event ∷ []) ≡ false
  none_lost_then event none here = list_any-append is_gone events (event ∷ []) ∙ ap (λ (b : Bool). b || (is_gone event || false)) none ∙ ap (λ (b : Bool). b || false) here

  -- the machine of one more move is that of one more event
  pub machine_then : (machine : BuildScheduler) (halts : Bool) (event : Event) (move : Move) → move ≡ move_of s progress event →
      IsMachineOf machine (workload_of s) (after_move (workload_of s) (halted_if halts (schedule_of progress)) move) → IsMachineOf machine (workload_of s) (halted_if halts (schedule_of (progress_of s (events ++ event ∷ []))))
  machine_then machine halts event move same is =
      subst (IsMachineOf machine (workload_of s))
      (ap (after_move (workload_of s) (halted_if halts (schedule_of progress))) same ∙ halted_after (workload_of s) halts (schedule_of progress) (move_of s progress event)
      ∙ ap (halted_if halts) (sym (schedule_after s progress event) ∙ ap schedule_of (sym (progress_then event)))) is

  pub machine_lost : (machine : BuildScheduler) (halts other : Bool) (ticket : ℕ) →
      IsMachineOf machine (workload_of s) (after_move (workload_of s) (halted_if halts (schedule_of progress)) (Loses ticket)) → IsMachineOf machine (workload_of s) (halted_if other (schedule_of (progress_of s (events ++ Gone ticket ∷ []))))
  machine_lost machine halts other ticket is =
      subst (IsMachineOf machine (workload_of s))
      (lost_halts (workload_of s) halts other (schedule_of progress) ticket ∙ ap (halted_if other) (sym (schedule_after s progress (Gone ticket)) ∙ ap schedule_of (sym (progress_then (Gone ticket))))) is

  -- the children are orderly
  pub orderly : IsGraph s.graph → LawfulMoves (workload_of s) empty_schedule (moves_of s events) → AreOrderly (workload_of s) (schedule_of progress)
  orderly graph lawful = subst (AreOrderly (workload_of s)) (sym (schedule_after_all s empty_progress events)) (orderly_after (workload_of s) (stepwise s graph) empty_schedule (orderly_at_first (workload_of s)) (moves_of s events) lawful)

-- a running child is found, with its file's position
pub run_at : (ticket position : ℕ) (runs : List Run) → position_of ticket (map child_of_run runs) ≡ Some position → (run : Run) × (run_of ticket runs ≡ Some run) × (run.position ≡ position)
run_at ticket position [] is = absurd (none-some position is)
run_at ticket position (run ∷ runs) is =
    elim (cases_Bool (eqb run.ticket ticket)) [
      | inl t ↦ (
        run,
        cond-true (eqb run.ticket ticket) (Some run) (run_of ticket runs) t,
        same_Some run.position position (sym (cond-true (eqb run.ticket ticket) (Some run.position) (position_of ticket (map child_of_run runs)) t) ∙ is),
      )
      | inr f ↦
          let rest = run_at ticket position runs (sym (cond-false (eqb run.ticket ticket) (Some run.position) (position_of ticket (map child_of_run runs)) f) ∙ is) in
          (rest.0, cond-false (eqb run.ticket ticket) (Some run) (run_of ticket runs) f ∙ rest.1, rest.2)
    ]

-- what a running child's end adds
pub ends_then : (s : Work) (events : List Event) (ticket : ℕ) (exit : Exit) (run : Run) → run_of ticket (progress_of s events).runs ≡ Some run →
    (progress_of s (events ++ Ended ticket exit ∷ [])).ends ≡ (progress_of s events).ends ++ (record { position = run.position; request = run.request; below = run.below; exit = exit }) ∷ []
unfolding after
ends_then s events ticket exit run found =
    ap (λ (b : BuildProgress). b.ends) (progress_then s events (Ended ticket exit)) ∙ ap (λ (r : Option Run). (progress_of s events).ends ++ end_of r exit) found

pub ends_started : (s : Work) (events : List Event) (ticket : ℕ) (request : Request) → (progress_of s (events ++ Started ticket request ∷ [])).ends ≡ (progress_of s events).ends
unfolding after
ends_started s events ticket request = ap (λ (b : BuildProgress). b.ends) (progress_then s events (Started ticket request))

pub ends_gone : (s : Work) (events : List Event) (ticket : ℕ) → (progress_of s (events ++ Gone ticket ∷ [])).ends ≡ (progress_of s events).ends
unfolding after
ends_gone s events ticket = ap (λ (b : BuildProgress). b.ends) (progress_then s events (Gone ticket))
