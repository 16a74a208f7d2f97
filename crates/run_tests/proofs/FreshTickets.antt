-- No ticket is given twice, event after event.
use Rattle.std.proofs.Common.{◌≡◌, ℕ, List, [], ◌∷◌, ◌++◌, Err, sym, subst}
use Rattle.std.proofs.lemmas.List.{append_assoc, append-nil}
use Rattle.base.specs.declared.child.Request.{Request}
use Rattle.base.specs.declared.child.Exit.{Exit}
use Rattle.base.specs.declared.child.Event.{Event}
use Rattle.base.specs.declared.child.Event.TheVariants.{Started, Ended, Gone}
use Rattle.outside.specs.declared.procs.WaitFault.{WaitFault}
use Rattle.outside.specs.declared.procs.WaitFault.TheVariants as wait
use Rattle.outside.specs.Children.{IsFresh, end_event}
use Rattle.run_spec.specs.ChildJournal.{EachAfter, HasFreshTicket}
use Rattle.run_spec.proofs.Journal.{EachAfter-append}
use Rattle.run_spec.proofs.Steps.{fresh_after}

module _ (old events : List Event) (fresh : EachAfter HasFreshTicket old events) where
  pub fresh_started : (journal : List Event) (ticket : ℕ) (request : Request) → journal ≡ old ++ events → IsFresh journal ticket → EachAfter HasFreshTicket old (events ++ Started ticket request ∷ [])
  unfolding EachAfter
  fresh_started journal ticket request same is = EachAfter-append HasFreshTicket old events (Started ticket request ∷ []) fresh (subst (λ (l : List Event). IsFresh l ticket) same is, tt)

  pub fresh_ended : (ticket : ℕ) (exit : Exit) → EachAfter HasFreshTicket old (events ++ Ended ticket exit ∷ [])
  unfolding EachAfter
  fresh_ended ticket exit = EachAfter-append HasFreshTicket old events (Ended ticket exit ∷ []) fresh (tt, tt)

  fresh_gone : (ticket : ℕ) → EachAfter HasFreshTicket old (events ++ Gone ticket ∷ [])
  unfolding EachAfter
  fresh_gone ticket = EachAfter-append HasFreshTicket old events (Gone ticket ∷ []) fresh (tt, tt)

  pub fresh_lost : (fault : WaitFault) → EachAfter HasFreshTicket old (events ++ end_event (Err fault) ∷ [])
  fresh_lost (wait.NoMemory ticket) = fresh_gone ticket
  fresh_lost (wait.Lost ticket) = fresh_gone ticket

-- tickets that are fresh after an old journal are so without it
one_alone : (old before : List Event) (event : Event) → HasFreshTicket (old ++ before) event → HasFreshTicket before event
one_alone old before (Started ticket request) is = fresh_after old before ticket is
one_alone old before (Ended ticket exit) is = tt
one_alone old before (Gone ticket) is = tt

-- (the same behind some of the events)
pub all_alone : (old before events : List Event) → EachAfter HasFreshTicket (old ++ before) events → EachAfter HasFreshTicket before events
unfolding EachAfter
all_alone old before [] is = tt
all_alone old before (event ∷ events) is =
    (one_alone old before event is.0, all_alone old (before ++ event ∷ []) events (subst (λ (l : List Event). EachAfter HasFreshTicket l events) (append_assoc old before (event ∷ [])) is.1))

pub fresh_alone : (old events : List Event) → EachAfter HasFreshTicket old events → EachAfter HasFreshTicket [] events
fresh_alone old events is = all_alone old [] events (subst (λ (l : List Event). EachAfter HasFreshTicket l events) (sym (append-nil old)) is)
