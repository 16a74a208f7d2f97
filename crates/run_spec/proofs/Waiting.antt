-- Starts that wait for the commits before them, as a journal and the number of acknowledged commits grow.
use Rattle.std.proofs.Common.{ℕ, ◌≤◌, List, [], ◌∷◌, ◌++◌, length, arith}
use Rattle.base.specs.declared.child.Request.{Request}
use Rattle.base.specs.declared.child.Exit.{Exit}
use Rattle.base.specs.declared.child.Event.{Event}
use Rattle.base.specs.declared.child.Event.TheVariants.{Started, Ended, Gone}
use Rattle.run_spec.specs.ChildJournal.{Work, EachAfter}
use Rattle.run_spec.specs.Commits.{commits, ComesAfterCommits, Waits}
use Rattle.run_spec.proofs.Journal.{EachAfter-append}

-- a property of each event follows from a stronger one
pub each_weaker : (P Q : List Event → Event → Type 0) → ((before : List Event) (event : Event) → P before event → Q before event) → (before events : List Event) → EachAfter P before events → EachAfter Q before events
unfolding EachAfter
each_weaker P Q to before [] each = tt
each_weaker P Q to before (event ∷ events) each = (to before event each.0, each_weaker P Q to (before ++ event ∷ []) events each.1)

module _ (setting : Work) where
  after_fewer : (acknowledged more : ℕ) → acknowledged ≤ more → (before : List Event) (event : Event) → ComesAfterCommits setting acknowledged before event → ComesAfterCommits setting more before event
  after_fewer acknowledged more le before (Started ticket request) h = omega arith
  after_fewer acknowledged more le before (Ended ticket exit) h = tt
  after_fewer acknowledged more le before (Gone ticket) h = tt

  -- more commits are acknowledged
  pub waits_more : (acknowledged more : ℕ) (events : List Event) → acknowledged ≤ more → Waits setting acknowledged events → Waits setting more events
  waits_more acknowledged more events le waits = each_weaker (ComesAfterCommits setting acknowledged) (ComesAfterCommits setting more) (after_fewer acknowledged more le) [] events waits

  -- one start more, where all commits so far are acknowledged
  pub waits_start : (acknowledged : ℕ) (events : List Event) (ticket : ℕ) (request : Request) → length (commits setting events) ≤ acknowledged → Waits setting acknowledged events →
      Waits setting acknowledged (events ++ Started ticket request ∷ [])
  unfolding EachAfter
  waits_start acknowledged events ticket request le waits = EachAfter-append (ComesAfterCommits setting acknowledged) [] events (Started ticket request ∷ []) waits (le, tt)

  -- one end more, or one that is lost
  pub waits_end : (acknowledged : ℕ) (events : List Event) (ticket : ℕ) (exit : Exit) → Waits setting acknowledged events → Waits setting acknowledged (events ++ Ended ticket exit ∷ [])
  unfolding EachAfter
  waits_end acknowledged events ticket exit waits = EachAfter-append (ComesAfterCommits setting acknowledged) [] events (Ended ticket exit ∷ []) waits (tt, tt)

  pub waits_gone : (acknowledged : ℕ) (events : List Event) (ticket : ℕ) → Waits setting acknowledged events → Waits setting acknowledged (events ++ Gone ticket ∷ [])
  unfolding EachAfter
  waits_gone acknowledged events ticket waits = EachAfter-append (ComesAfterCommits setting acknowledged) [] events (Gone ticket ∷ []) waits (tt, tt)

  -- before the first event
  pub waits_none : (acknowledged : ℕ) → Waits setting acknowledged []
  unfolding EachAfter
  waits_none acknowledged = tt
