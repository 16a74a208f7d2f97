-- What a journal that is told holds, event after event.
use Rattle.std.proofs.Common.{◌≡◌, ℕ, true, List, [], ◌∷◌, ◌++◌, Option, Some, Err, sym, ap, subst, ◌∙◌}
use Rattle.std.specs.Prelude.{IfSome}
use Rattle.std.specs.Option.{option_map}
use Rattle.std.proofs.lemmas.List.{append_assoc}
use Rattle.base.specs.declared.child.Request.{Request}
use Rattle.base.specs.declared.child.Exit.{Exit}
use Rattle.base.specs.declared.child.Event.{Event}
use Rattle.base.specs.declared.child.Event.TheVariants.{Started, Ended, Gone}
use Rattle.outside.specs.declared.procs.WaitFault.{WaitFault}
use Rattle.outside.specs.declared.procs.WaitFault.TheVariants as wait
use Rattle.outside.specs.Children.{started_with, IsFresh, end_event}
use Rattle.run_spec.specs.Moves.{is_running}
use Rattle.run_spec.specs.ChildJournal.{Work, BuildProgress, EachAfter, HasFreshTicket, schedule_of, after, progress_of}
use Rattle.run_spec.proofs.Journal.{EachAfter-append, answered_more}
use Rattle.run_spec.proofs.Steps.{run_found, run_of_running, started_all, ended_all, gone_all, fresh_after}
use Rattle.run_build.specs.UnderWay.{AreStartedIn, IsJournalled}
use Rattle.run_build.proofs.EventsThen.{progress_then}

module _ (answer : Request → Exit) (s : Work) (events old journal : List Event) (is : IsJournalled answer s events old journal) where
  follows_then : (event : Event) (new : List Event) → new ≡ journal ++ event ∷ [] → new ≡ old ++ (events ++ event ∷ [])
  follows_then event new then = then ∙ ap (λ (l : List Event). l ++ event ∷ []) is.follows ∙ append_assoc old events (event ∷ [])

  -- a child is started
  pub journal_started : (ticket : ℕ) (request : Request) (new : List Event) → IsFresh journal ticket → new ≡ journal ++ Started ticket request ∷ [] → IsJournalled answer s (events ++ Started ticket request ∷ []) old new
  unfolding EachAfter
  journal_started ticket request new fresh then =
      let here : IsFresh events ticket = fresh_after old events ticket (ap (started_with ticket) (sym is.follows) ∙ fresh) in
      record {
        follows = follows_then (Started ticket request) new then;
        tickets = EachAfter-append HasFreshTicket [] events (Started ticket request ∷ []) is.tickets (here, tt);
        answered = answered_more answer events (Started ticket request ∷ []) is.answered (tt, tt);
        started = subst (λ (b : BuildProgress). AreStartedIn (events ++ Started ticket request ∷ []) b.runs) (sym (progress_then s events (Started ticket request))) (started_all s events (progress_of s events) ticket request is.started here);
        started_since = subst (λ (b : BuildProgress). AreStartedIn new b.runs) (sym (progress_then s events (Started ticket request)))
            (subst (λ (l : List Event). AreStartedIn l (after s (progress_of s events) (Started ticket request)).runs) (sym then) (started_all s journal (progress_of s events) ticket request is.started_since fresh));
      }

  -- a child's end is lost
  journal_gone : (ticket : ℕ) (new : List Event) → new ≡ journal ++ Gone ticket ∷ [] → IsJournalled answer s (events ++ Gone ticket ∷ []) old new
  unfolding EachAfter
  journal_gone ticket new then = record {
    follows = follows_then (Gone ticket) new then;
    tickets = EachAfter-append HasFreshTicket [] events (Gone ticket ∷ []) is.tickets (tt, tt);
    answered = answered_more answer events (Gone ticket ∷ []) is.answered (tt, tt);
    started = subst (λ (b : BuildProgress). AreStartedIn (events ++ Gone ticket ∷ []) b.runs) (sym (progress_then s events (Gone ticket))) (gone_all s events (progress_of s events) ticket is.started);
    started_since = subst (λ (b : BuildProgress). AreStartedIn new b.runs) (sym (progress_then s events (Gone ticket)))
        (subst (λ (l : List Event). AreStartedIn l (after s (progress_of s events) (Gone ticket)).runs) (sym then) (gone_all s journal (progress_of s events) ticket is.started_since));
  }

  pub journal_lost : (fault : WaitFault) (new : List Event) → new ≡ journal ++ end_event (Err fault) ∷ [] → IsJournalled answer s (events ++ end_event (Err fault) ∷ []) old new
  journal_lost (wait.NoMemory ticket) new then = journal_gone ticket new then
  journal_lost (wait.Lost ticket) new then = journal_gone ticket new then

  -- a child has ended with the answer to its start
  pub journal_ended : (ticket : ℕ) (exit : Exit) (new : List Event) → is_running (schedule_of (progress_of s events)) ticket ≡ true → IfSome (started_with ticket journal) (λ request. exit ≡ answer request) →
      new ≡ journal ++ Ended ticket exit ∷ [] → IsJournalled answer s (events ++ Ended ticket exit ∷ []) old new
  unfolding EachAfter
  journal_ended ticket exit new runs answers then =
      let found = run_of_running ticket (progress_of s events).runs runs in
      let since : started_with ticket journal ≡ Some found.0.request =
      subst (λ (t : ℕ). started_with t journal ≡ Some found.0.request) found.2 (run_found (λ r. started_with r.ticket journal ≡ Some r.request) (progress_of s events).runs ticket found.0 found.1 is.started_since) in
      let here : started_with ticket events ≡ Some found.0.request =
      subst (λ (t : ℕ). started_with t events ≡ Some found.0.request) found.2 (run_found (λ r. started_with r.ticket events ≡ Some r.request) (progress_of s events).runs ticket found.0 found.1 is.started) in
      let answered : exit ≡ answer found.0.request = subst (λ (o : Option Request). IfSome o (λ request. exit ≡ answer request)) since answers in
      record {
        follows = follows_then (Ended ticket exit) new then;
        tickets = EachAfter-append HasFreshTicket [] events (Ended ticket exit ∷ []) is.tickets (tt, tt);
        answered = answered_more answer events (Ended ticket exit ∷ []) is.answered (ap (option_map answer) here ∙ ap (λ (e : Exit). Some e) (sym answered), tt);
        started = subst (λ (b : BuildProgress). AreStartedIn (events ++ Ended ticket exit ∷ []) b.runs) (sym (progress_then s events (Ended ticket exit))) (ended_all s events (progress_of s events) ticket exit is.started);
        started_since = subst (λ (b : BuildProgress). AreStartedIn new b.runs) (sym (progress_then s events (Ended ticket exit)))
            (subst (λ (l : List Event). AreStartedIn l (after s (progress_of s events) (Ended ticket exit)).runs) (sym then) (ended_all s journal (progress_of s events) ticket exit is.started_since));
      }
