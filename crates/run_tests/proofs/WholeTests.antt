-- Runs of tests from before their first event to their end.
use Rattle.std.proofs.Common.{◌≡◌, ℕ, Bool, true, false, eqb, List, [], length, map, Option, Some, None, refl, sym, ◌∙◌}
use Rattle.std.specs.Prelude.{is_some}
use Rattle.std.proofs.lemmas.List.{append-nil}
use Rattle.base.specs.declared.child.Request.{Request}
use Rattle.base.specs.declared.child.Exit.{Exit}
use Rattle.base.specs.declared.child.Event.{Event}
use Rattle.run_spec.specs.Moves.{Workload, SchedulerState, LawfulMoves, GreedyMoves, IsFinished, empty_schedule, start_now}
use Rattle.run_spec.specs.ChildJournal.{EachAfter, Answered}
use Rattle.run_spec.specs.Steps.{halted_if, step_of, step_at}
use Rattle.run_spec.specs.declared.step.Step.TheVariants.{Start}
use Rattle.run_spec.proofs.PlainSteps.{step_starts}
use Rattle.testbench_runs.specs.declared.ends.RunEnd.{RunEnd}
use Rattle.testbench_runs.specs.Verdicts.{unstarted_run}
use Rattle.run_spec.specs.TestJournal.{TestSetting, LawfulTests, test_workload, test_moves, after_tests, progress_of_tests, AreTestsRequested}
use Rattle.run_scheduler.specs.declared.test_scheduler.TestScheduler.{TestScheduler}
use Rattle.run_scheduler.specs.Rows.{IsSchedulerOf}
use Rattle.passes_spec.specs.Passes.{Pass}
use Rattle.run_tests.specs.UnderWay.{Goes, GoesOn}
use Rattle.run_tests.proofs.Passes.{first_recorded}
use Rattle.run_tests.specs.Ran.{TestsRan}
use Rattle.run_tests.proofs.Found.{found_at_first}
use Rattle.run_tests.proofs.FreshTickets.{fresh_alone}
use Rattle.run_tests.proofs.Answering.{answered_tests}
use Rattle.run_tests.proofs.TestsThen.{finished_then}

-- nothing has happened yet
pub first_going : (tells : Type 0) (answer : Request → Exit) (setting : TestSetting) (journal : List Event) (scheduler : TestScheduler) (found : List RunEnd) → IsSchedulerOf scheduler (test_workload setting) empty_schedule → found ≡ map unstarted_run setting.plan.runs
    → Goes tells answer setting journal scheduler found false journal
unfolding LawfulMoves GreedyMoves test_moves after_tests AreTestsRequested EachAfter
first_going tells answer setting journal scheduler found step unstarted = record {
  events = [];
  under_way = record {
    moves = tt;
    requests = tt;
    greedy = λ none. tt;
    none_lost = λ none. refl;
    in_step = step;
    found_all = λ none. unstarted ∙ found_at_first setting;
  };
  journal = λ t. sym (append-nil journal);
  fresh = λ t. tt;
  answers = λ t. tt;
}

-- nothing has happened yet, and nothing is recorded
pub first_going_on : (tells : Type 0) (answer : Request → Exit) (setting : TestSetting) (journal : List Event) (scheduler : TestScheduler) (found : List RunEnd) (records : Bool) (passes : List Pass) → IsSchedulerOf scheduler (test_workload setting) empty_schedule
    → found ≡ map unstarted_run setting.plan.runs → GoesOn tells answer setting journal scheduler found false journal records passes passes
unfolding first_going
first_going_on tells answer setting journal scheduler found records passes step unstarted = record {
  going = first_going tells answer setting journal scheduler found step unstarted;
  recorded = λ r. first_recorded setting false passes;
}

-- nothing was done
pub ran_nothing : (tells : Type 0) (answer : Request → Exit) (setting : TestSetting) (journal : List Event) (Says Recorded : List Event → Type 0) → Recorded [] → TestsRan tells answer setting journal journal false Says Recorded
unfolding LawfulMoves test_moves AreTestsRequested EachAfter
ran_nothing tells answer setting journal Says Recorded recorded = record {
  events = [];
  journal = λ t. sym (append-nil journal);
  moves = tt;
  requests = tt;
  greedy = tt;
  finished = tt;
  none_lost = tt;
  says = tt;
  recorded = recorded;
  fresh = λ t. tt;
  lawful = λ t. record { moves = tt; requests = tt; tickets = tt };
  answered = λ t. tt;
  whole = λ t. tt;
}

module _ (tells : Type 0) (answer : Request → Exit) (setting : TestSetting) (old new : List Event) (scheduler : TestScheduler) (found : List RunEnd) (first_fault : Bool) (going : Goes tells answer setting old scheduler found first_fault new) (Says Recorded : List Event → Type 0) (recorded : Recorded going.events) where
  lawful_now : tells → LawfulTests setting going.events
  lawful_now t = record { moves = going.under_way.moves; requests = going.under_way.requests; tickets = fresh_alone old going.events (going.fresh t) }

  answered_now : tells → Answered answer going.events
  answered_now t = answered_tests answer setting old going.events going.under_way.moves (going.fresh t) (going.answers t)

  pub ran_fault : TestsRan tells answer setting old new false Says Recorded
  ran_fault = record {
    events = going.events;
    journal = going.journal;
    moves = going.under_way.moves;
    requests = going.under_way.requests;
    greedy = tt;
    finished = tt;
    none_lost = tt;
    says = tt;
    recorded = recorded;
    fresh = going.fresh;
    lawful = lawful_now;
    answered = answered_now;
    whole = λ t. tt;
  }

  pub ran_done : first_fault ≡ false → IsFinished (test_workload setting) (halted_if first_fault (progress_of_tests setting going.events).schedule) → Says going.events → TestsRan tells answer setting old new true Says Recorded
  ran_done none finished says =
      let over : IsFinished (test_workload setting) (progress_of_tests setting going.events).schedule = finished_then setting going.events scheduler found first_fault going.under_way none finished in
      record {
        events = going.events;
        journal = going.journal;
        moves = going.under_way.moves;
        requests = going.under_way.requests;
        greedy = going.under_way.greedy none;
        finished = over;
        none_lost = going.under_way.none_lost none;
        says = says;
        recorded = recorded;
        fresh = going.fresh;
        lawful = lawful_now;
        answered = answered_now;
        whole = λ t. record { lawful = lawful_now t; greedy = going.under_way.greedy none; finished = over; none_lost = going.under_way.none_lost none };
      }

from_step : (at : ℕ) (o : Option ℕ) (idle : Bool) → Start at ≡ step_of o idle → o ≡ Some at
from_step at o idle is = step_starts o idle at (sym is)

-- the run that is to be started now
pub started_at : (workload : Workload) (schedule : SchedulerState) (at : ℕ) → Start at ≡ step_at workload schedule → start_now workload schedule ≡ Some at
unfolding step_at
started_at workload schedule at is = from_step at (start_now workload schedule) (eqb (length schedule.running) 0) is

-- no fault is noted where whether there is one is false
pub none_if : {X : Type 0} (o : Option X) → is_some o ≡ false → o ≡ None
none_if None h = refl
none_if (Some x) h = let nothing : ⊥ = cc in absurd nothing
