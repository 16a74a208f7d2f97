-- A build's journal, part after part: what has happened, its moves and its requests.
use Rattle.std.proofs.Common.{◌≡◌, ℕ, ◌&&◌, not, eqb, List, map, Option, Some, None, cond, inl, inr, sym, subst, ◌∙◌, [], ◌∷◌, ◌++◌, length, refl, ap}
use Rattle.std.specs.Prelude.{is_some, is_none}
use Rattle.std.specs.List.{list_any, list_all}
use Rattle.std.proofs.lemmas.List.{drop_at, map_push, map-append, append-nil, append_assoc}
use Rattle.std.proofs.lemmas.Bool.{eq-eqb, ne_eqb, cond-true, cond-false, cases_Bool}
use Rattle.base.specs.declared.graph.BuiltFile.{BuiltFile}
use Rattle.base.specs.declared.child.Request.{Request}
use Rattle.base.specs.declared.child.Exit.{Exit}
use Rattle.base.specs.declared.child.Event.{Event}
use Rattle.base.specs.declared.child.Event.TheVariants.{Started, Ended, Gone}
use Rattle.outside.specs.Records.{deps_at}
use Rattle.run_spec.specs.Moves.{Workload, RunningChild, EndedChild, SchedulerState, Move, is_made_so_far, is_startable, position_of, without_child, ended_child, after_move, after_moves, LawfulMoves, GreedyMoves}
use Rattle.run_spec.specs.ChildJournal.{Work, Run, End, BuildProgress, exit_at, output_at, artefact_so_far, workload_of, child_of_run, child_of_end, schedule_of, run_of, others_of, end_of, after, after_all, move_of, moves_after, AreRequested, EachAfter, HoldsAnswer, Answered, since, starts_of}

pub after_all-append : (s : Work) (b : BuildProgress) (xs ys : List Event) → after_all s b (xs ++ ys) ≡ after_all s (after_all s b xs) ys
unfolding after_all
after_all-append s b [] ys = refl
after_all-append s b (x ∷ xs) ys = after_all-append s (after s b x) xs ys

-- the children that run, and that have ended, after an end
running_without : (ticket : ℕ) (runs : List Run) → map child_of_run (others_of ticket runs) ≡ without_child ticket (map child_of_run runs)
running_without ticket [] = refl
running_without ticket (run ∷ runs) =
    elim (cases_Bool (eqb run.ticket ticket)) [
      | inl t ↦ rw t refl
      | inr f ↦ rw f (ap (λ (children : List RunningChild). child_of_run run ∷ children) (running_without ticket runs))
    ]

ended_is : (ticket : ℕ) (runs : List Run) (exit : Exit) → map child_of_end (end_of (run_of ticket runs) exit) ≡ ended_child (position_of ticket (map child_of_run runs)) (eqb exit.code 0) exit.output
ended_is ticket [] exit = refl
ended_is ticket (run ∷ runs) exit =
    elim (cases_Bool (eqb run.ticket ticket)) [
      | inl t ↦ rw t refl
      | inr f ↦ rw f (ended_is ticket runs exit)
    ]

-- what has happened after an event is what has happened after its move
pub schedule_after : (s : Work) (b : BuildProgress) (event : Event) → schedule_of (after s b event) ≡ after_move (workload_of s) (schedule_of b) (move_of s b event)
unfolding after after_move
schedule_after s b (Started t r) = rw map_push refl
schedule_after s b (Ended t e) = rw (running_without t b.runs, map-append child_of_end b.ends (end_of (run_of t b.runs) e), ended_is t b.runs e) refl
schedule_after s b (Gone t) = rw (running_without t b.runs) refl

pub schedule_after_all : (s : Work) (b : BuildProgress) (xs : List Event) → schedule_of (after_all s b xs) ≡ after_moves (workload_of s) (schedule_of b) (moves_after s b xs)
unfolding after_all after_moves moves_after
schedule_after_all s b [] = refl
schedule_after_all s b (x ∷ xs) = schedule_after_all s (after s b x) xs ∙ ap (λ (schedule : SchedulerState). after_moves (workload_of s) schedule (moves_after s (after s b x) xs)) (schedule_after s b x)

-- a file is made where it has an artefact
pub made_so_far : (s : Work) (b : BuildProgress) (k : ℕ) → is_made_so_far (workload_of s) (schedule_of b) k ≡ is_some (artefact_so_far s b.ends k)
made_so_far s b k = refl

-- a file may be started where it wasn't, has no artefact, and all that it depends on has one
pub startable_is : (s : Work) (b : BuildProgress) (k : ℕ) →
    is_startable (workload_of s) (schedule_of b) k ≡
    (not (list_any (λ other. eqb other k) b.taken) && is_none (artefact_so_far s b.ends k) && list_all (λ dep. is_some (artefact_so_far s b.ends dep)) (deps_at s.graph k))
unfolding is_startable
startable_is s b k = refl

-- two parts
pub moves-append : (s : Work) (b : BuildProgress) (xs ys : List Event) → moves_after s b (xs ++ ys) ≡ moves_after s b xs ++ moves_after s (after_all s b xs) ys
unfolding after_all moves_after
moves-append s b [] ys = refl
moves-append s b (x ∷ xs) ys = ap (λ (moves : List Move). move_of s b x ∷ moves) (moves-append s (after s b x) xs ys)

pub LawfulMoves-append : (workload : Workload) (schedule : SchedulerState) (xs ys : List Move) → LawfulMoves workload schedule xs → LawfulMoves workload (after_moves workload schedule xs) ys → LawfulMoves workload schedule (xs ++ ys)
unfolding LawfulMoves after_moves
LawfulMoves-append workload schedule [] ys h k = k
LawfulMoves-append workload schedule (x ∷ xs) ys h k = (h.0, LawfulMoves-append workload (after_move workload schedule x) xs ys h.1 k)

pub GreedyMoves-append : (workload : Workload) (schedule : SchedulerState) (xs ys : List Move) → GreedyMoves workload schedule xs → GreedyMoves workload (after_moves workload schedule xs) ys → GreedyMoves workload schedule (xs ++ ys)
unfolding GreedyMoves after_moves
GreedyMoves-append workload schedule [] ys h k = k
GreedyMoves-append workload schedule (x ∷ xs) ys h k = (h.0, GreedyMoves-append workload (after_move workload schedule x) xs ys h.1 k)

pub AreRequested-append : (s : Work) (b : BuildProgress) (xs ys : List Event) → AreRequested s b xs → AreRequested s (after_all s b xs) ys → AreRequested s b (xs ++ ys)
unfolding AreRequested after_all
AreRequested-append s b [] ys h k = k
AreRequested-append s b (x ∷ xs) ys h k = (h.0, AreRequested-append s (after s b x) xs ys h.1 k)

pub EachAfter-append : (P : List Event → Event → Type 0) (before xs ys : List Event) → EachAfter P before xs → EachAfter P (before ++ xs) ys → EachAfter P before (xs ++ ys)
unfolding EachAfter
EachAfter-append P before [] ys h k = subst (λ (l : List Event). EachAfter P l ys) (append-nil before) k
EachAfter-append P before (x ∷ xs) ys h k = (h.0, EachAfter-append P (before ++ x ∷ []) xs ys h.1 (subst (λ (l : List Event). EachAfter P l ys) (sym (append_assoc before (x ∷ []) xs)) k))

pub answered_more : (answer : Request → Exit) (events more : List Event) → Answered answer events → EachAfter (HoldsAnswer answer) events more → Answered answer (events ++ more)
answered_more answer events more answered then = EachAfter-append (HoldsAnswer answer) [] events more answered then

-- what was added to a journal
pub since-added : (old added : List Event) → since old (old ++ added) ≡ added
since-added old added = drop_at old added (length old) refl

pub starts_of-append : (xs ys : List Event) → starts_of (xs ++ ys) ≡ starts_of xs ++ starts_of ys
starts_of-append [] ys = refl
starts_of-append (Started t r ∷ xs) ys = ap (λ (rs : List Request). r ∷ rs) (starts_of-append xs ys)
starts_of-append (Ended t e ∷ xs) ys = starts_of-append xs ys
starts_of-append (Gone t ∷ xs) ys = starts_of-append xs ys

no_exit : {X : Type 0} (e : X) → ◌≡◌ {A = Option X} (Some e) None → ⊥
no_exit e h = cc

-- one more end
pub exit_at-pushed : (ends : List End) (i : ℕ) (r : Request) (w : List BuiltFile) (e : Exit) → exit_at ends i ≡ None → exit_at (ends ++ (record { position = i; request = r; below = w; exit = e }) ∷ []) i ≡ Some e
unfolding exit_at
exit_at-pushed [] i r w e h = cond-true (eqb i i) (Some e) None (eq-eqb i i refl)
exit_at-pushed (end ∷ ends) i r w e h =
    elim (cases_Bool (eqb end.position i)) [
      | inl t ↦ absurd (no_exit end.exit (sym (cond-true (eqb end.position i) (Some end.exit) (exit_at ends i) t) ∙ h))
      | inr f ↦ cond-false (eqb end.position i) (Some end.exit) (exit_at (ends ++ (record { position = i; request = r; below = w; exit = e }) ∷ []) i) f ∙ exit_at-pushed ends i r w e (sym (cond-false (eqb end.position i) (Some end.exit) (exit_at ends i) f) ∙ h)
    ]

pub exit_at-push_other : (ends : List End) (i k : ℕ) (r : Request) (w : List BuiltFile) (e : Exit) → (i ≡ k → ⊥) → exit_at (ends ++ (record { position = i; request = r; below = w; exit = e }) ∷ []) k ≡ exit_at ends k
unfolding exit_at
exit_at-push_other [] i k r w e h = cond-false (eqb i k) (Some e) None (ne_eqb i k h)
exit_at-push_other (end ∷ ends) i k r w e h = ap (cond (eqb end.position k) (Some end.exit)) (exit_at-push_other ends i k r w e h)

-- what was printed, with one more end
pub output_at-pushed : (ended : List EndedChild) (end : EndedChild) (k : ℕ) → output_at ended k ≡ None → output_at (ended ++ end ∷ []) k ≡ cond (eqb end.position k && end.ok) (Some end.output) None
unfolding output_at
output_at-pushed [] end k h = refl
output_at-pushed (first ∷ ended) end k h =
    elim (cases_Bool (eqb first.position k && first.ok)) [
      | inl t ↦ absurd (no_exit first.output (sym (cond-true (eqb first.position k && first.ok) (Some first.output) (output_at ended k) t) ∙ h))
      | inr f ↦
          cond-false (eqb first.position k && first.ok) (Some first.output) (output_at (ended ++ end ∷ []) k) f
          ∙ output_at-pushed ended end k (sym (cond-false (eqb first.position k && first.ok) (Some first.output) (output_at ended k) f) ∙ h)
    ]

pub output_at-push_other : (ended : List EndedChild) (end : EndedChild) (k : ℕ) → (end.position ≡ k → ⊥) → output_at (ended ++ end ∷ []) k ≡ output_at ended k
unfolding output_at
output_at-push_other [] end k h = rw (ne_eqb end.position k h) refl
output_at-push_other (first ∷ ended) end k h = ap (cond (eqb first.position k && first.ok) (Some first.output)) (output_at-push_other ended end k h)

-- no child runs
pub no_runs : (runs : List Run) → map child_of_run runs ≡ [] → runs ≡ []
no_runs [] h = refl
no_runs (run ∷ runs) h = let nothing : ⊥ = cc in absurd nothing
