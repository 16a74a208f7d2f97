-- Properties of a journal that hold of each of its prefixes, and of each event after the events before it.
use Rattle.std.proofs.Common.{◌≡◌, List, [], ◌∷◌, ◌++◌, sym, ap, subst, ◌∙◌}
use Rattle.std.proofs.lemmas.Grind.{flat_map-append}
use Rattle.std.proofs.lemmas.List.{append-nil, append_assoc}
use Rattle.base.specs.declared.child.Request.{Request}
use Rattle.base.specs.declared.child.Exit.{Exit}
use Rattle.base.specs.declared.child.Event.{Event}
use Rattle.base.specs.declared.child.Event.TheVariants.{Started, Ended, Gone}
use Rattle.outside.specs.Records.{Record}
use Rattle.run_spec.specs.Moves.{SchedulerState, empty_schedule, after_move, LawfulMoves}
use Rattle.run_spec.specs.ChildJournal.{Work, End, BuildProgress, empty_progress, workload_of, run_of, end_of, after, after_all, progress_of, move_of, moves_after, IsRequested, AreRequested, EachAfter, HasFreshTicket, HoldsAnswer, Answered, Lawful}
use Rattle.run_spec.specs.Commits.{commit_of, commits_of, commits}
use Rattle.run_spec.proofs.Journal.{after_all-append}

lawful_moves_prefix : (s : Work) (b : BuildProgress) (schedule : SchedulerState) (xs ys : List Event) → LawfulMoves (workload_of s) schedule (moves_after s b (xs ++ ys)) → LawfulMoves (workload_of s) schedule (moves_after s b xs)
unfolding LawfulMoves moves_after
lawful_moves_prefix s b schedule [] ys h = tt
lawful_moves_prefix s b schedule (x ∷ xs) ys h = (h.0, lawful_moves_prefix s (after s b x) (after_move (workload_of s) schedule (move_of s b x)) xs ys h.1)

requested_prefix : (s : Work) (b : BuildProgress) (xs ys : List Event) → AreRequested s b (xs ++ ys) → AreRequested s b xs
unfolding AreRequested
requested_prefix s b [] ys h = tt
requested_prefix s b (x ∷ xs) ys h = (h.0, requested_prefix s (after s b x) xs ys h.1)

each_prefix : (P : List Event → Event → Type 0) (before xs ys : List Event) → EachAfter P before (xs ++ ys) → EachAfter P before xs
unfolding EachAfter
each_prefix P before [] ys h = tt
each_prefix P before (x ∷ xs) ys h = (h.0, each_prefix P (before ++ x ∷ []) xs ys h.1)

-- a prefix of a lawful journal is lawful
pub lawful_prefix : (s : Work) (xs ys : List Event) → Lawful s (xs ++ ys) → Lawful s xs
lawful_prefix s xs ys lawful = record {
  moves = lawful_moves_prefix s empty_progress empty_schedule xs ys lawful.moves;
  requests = requested_prefix s empty_progress xs ys lawful.requests;
  tickets = each_prefix HasFreshTicket [] xs ys lawful.tickets;
}

-- and its ends are answers where those of the journal are
pub answered_prefix : (answer : Request → Exit) (xs ys : List Event) → Answered answer (xs ++ ys) → Answered answer xs
answered_prefix answer xs ys answered = each_prefix (HoldsAnswer answer) [] xs ys answered

-- each start has the request of its file after the events before it
pub requested_at : (s : Work) (b : BuildProgress) (xs : List Event) (y : Event) (ys : List Event) → AreRequested s b (xs ++ y ∷ ys) → IsRequested s (after_all s b xs) y
unfolding AreRequested after_all
requested_at s b [] y ys h = h.0
requested_at s b (x ∷ xs) y ys h = requested_at s (after s b x) xs y ys h.1

-- before the first event
pub lawful_none : (s : Work) → Lawful s []
unfolding LawfulMoves AreRequested EachAfter moves_after
lawful_none s = record { moves = tt; requests = tt; tickets = tt }

-- a property of each event holds of one event, after the events before it
pub each_at : (P : List Event → Event → Type 0) (before xs : List Event) (y : Event) (ys : List Event) → EachAfter P before (xs ++ y ∷ ys) → P (before ++ xs) y
unfolding EachAfter
each_at P before [] y ys h = subst (λ (l : List Event). P l y) (sym (append-nil before)) h.0
each_at P before (x ∷ xs) y ys h = subst (λ (l : List Event). P l y) (append_assoc before (x ∷ []) xs) (each_at P (before ++ x ∷ []) xs y ys h.1)

-- ends are never taken back
ends_more : (s : Work) (b : BuildProgress) (events : List Event) → (more : List End) × ((after_all s b events).ends ≡ b.ends ++ more)
unfolding after_all after
ends_more s b [] = ([], sym (append-nil b.ends))
ends_more s b (Started ticket request ∷ events) = ends_more s (after s b (Started ticket request)) events
ends_more s b (Ended ticket exit ∷ events) =
    let rest = ends_more s (after s b (Ended ticket exit)) events in
    (end_of (run_of ticket b.runs) exit ++ rest.0, rest.1 ∙ append_assoc b.ends (end_of (run_of ticket b.runs) exit) rest.0)
ends_more s b (Gone ticket ∷ events) = ends_more s (after s b (Gone ticket)) events

-- what a prefix of a journal commits is a prefix of what the journal commits
pub commits_prefix : (s : Work) (xs ys : List Event) → (more : List Record) × (commits s (xs ++ ys) ≡ commits s xs ++ more)
commits_prefix s xs ys =
    let later = ends_more s (progress_of s xs) ys in (
      commits_of s.graph later.0,
      ap (λ (progress : BuildProgress). commits_of s.graph progress.ends) (after_all-append s empty_progress xs ys)
          ∙ ap (commits_of s.graph) later.1
          ∙ flat_map-append (commit_of s.graph) (progress_of s xs).ends later.0,
    )
