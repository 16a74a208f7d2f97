-- What runs of tests did, as their caller sees it.
use Rattle.std.specs.Prelude.{◌≡◌, Bool, false, List, ◌++◌}
use Rattle.std.specs.Bool.{OnTrue}
use Rattle.std.specs.List.{list_any}
use Rattle.base.specs.declared.child.Request.{Request}
use Rattle.base.specs.declared.child.Exit.{Exit}
use Rattle.base.specs.declared.child.Event.{Event}
use Rattle.run_spec.specs.Moves.{empty_schedule, LawfulMoves, GreedyMoves, IsFinished}
use Rattle.run_spec.specs.ChildJournal.{EachAfter, HasFreshTicket, Answered, is_gone}
use Rattle.run_spec.specs.TestJournal.{TestSetting, test_workload, test_moves, empty_tests, progress_of_tests, AreTestsRequested, LawfulTests, IsWholeTests}

-- What runs of tests did. Their events are the ones that the journal gained. They are lawful after a fault too: each
-- start is of the first run that wasn't started, has its request, and comes while a slot is free. Each end is the answer
-- to its own child's request. If the runs ended by themselves, no end was waited for too early, no child is lost, and
-- nothing is left to do.
pub record TestsRan (tells : Type 0) (answer : Request → Exit) (setting : TestSetting) (old new : List Event) (ended : Bool) (Says Recorded : List Event → Type 0) : Type 0 where
  pub events : List Event
  pub journal : tells → new ≡ old ++ events
  pub moves : LawfulMoves (test_workload setting) empty_schedule (test_moves setting empty_tests events)
  pub requests : AreTestsRequested setting empty_tests events
  pub greedy : OnTrue ended (GreedyMoves (test_workload setting) empty_schedule (test_moves setting empty_tests events))
  pub finished : OnTrue ended (IsFinished (test_workload setting) (progress_of_tests setting events).schedule)
  pub none_lost : OnTrue ended (list_any is_gone events ≡ false)
  pub says : OnTrue ended (Says events)
  pub recorded : Recorded events
  -- where the journal is told, no ticket is one that was given before, in the old journal neither
  pub fresh : tells → EachAfter HasFreshTicket old events
  pub lawful : tells → LawfulTests setting events
  pub answered : tells → Answered answer events
  pub whole : tells → OnTrue ended (IsWholeTests setting events)
