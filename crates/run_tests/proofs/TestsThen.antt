-- Runs of tests stay under way, event after event.
use Rattle.std.proofs.Common.{◌≡◌, ℕ, Bool, true, false, not, ◌||◌, ◌&&◌, ltb, cond, List, [], ◌∷◌, ◌++◌, length, Some, None, refl, sym, ap, subst, ◌∙◌}
use Rattle.std.specs.Prelude.{Option, IsTrue, unwrap_or}
use Rattle.std.specs.Option.{option_and_then}
use Rattle.std.specs.List.{list_any}
use Rattle.std.proofs.lemmas.Bool.{false≢true}
use Rattle.std.proofs.lemmas.List.Folds.{list_any-append}
use Rattle.base.specs.declared.child.Event.{Event}
use Rattle.base.specs.declared.child.Event.TheVariants.{Started, Ended, Gone}
use Rattle.base.specs.declared.child.Request.{Request}
use Rattle.base.specs.declared.child.Exit.{Exit}
use Rattle.run_spec.specs.Moves.{SchedulerState, Move, Starts, Ends, Loses, Halts, next_start, start_now, position_of, is_running, after_move, IsFinished, IsLawfulMove}
use Rattle.run_spec.specs.ChildJournal.{is_gone}
use Rattle.testbench_runs.specs.declared.ends.RunEnd.{RunEnd}
use Rattle.run_spec.specs.TestJournal.{TestSetting, TestProgress, test_workload, test_move, next_run, passed_at, after_test, empty_tests, progress_of_tests, test_request_at}
use Rattle.run_spec.proofs.TestSteps.{progress_more, lawful_more, greedy_more, requests_more}
use Rattle.run_spec.specs.Steps.{halted_if}
use Rattle.run_spec.proofs.Halting.{halted_not, halted_after, halts_now, lost_halts, start_while}
use Rattle.run_scheduler.specs.declared.test_scheduler.TestScheduler.{TestScheduler}
use Rattle.run_scheduler.specs.Rows.{IsSchedulerOf}
use Rattle.run_tests.specs.Results.{test_ends}
use Rattle.run_tests.specs.UnderWay.{AreUnderWay}
use Rattle.run_tests.proofs.Found.{found_started}

start_some : (free : Bool) (o : Option ℕ) (at : ℕ) → cond free o None ≡ Some at → o ≡ Some at
start_some true o at h = h
start_some false o at h = absurd (let nothing : ⊥ = cc in nothing)

-- nothing is owed of a time without a fault, once one is noted
never : {P : Type 0} (first_fault : Bool) → first_fault ≡ true → first_fault ≡ false → P
never first_fault is none = absurd (false≢true (sym none ∙ is))

module _ (setting : TestSetting) (events : List Event) (scheduler : TestScheduler) (found : List RunEnd) (first_fault : Bool) (is : AreUnderWay setting events scheduler found first_fault) where
  abbrev progress : TestProgress
  progress = progress_of_tests setting events

  abbrev schedule : SchedulerState
  schedule = progress.schedule

  -- the core after one more event
  schedule_then : (event : Event) → (progress_of_tests setting (events ++ event ∷ [])).schedule ≡ after_move (test_workload setting) schedule (test_move setting progress event)
  unfolding after_test
  schedule_then event = ap (λ (b : TestProgress). b.schedule) (progress_more setting empty_tests events event)

  scheduler_then : (scheduler' : TestScheduler) (event : Event) (move : Move) → test_move setting progress event ≡ move → IsSchedulerOf scheduler' (test_workload setting) (after_move (test_workload setting) (halted_if first_fault schedule) move)
      → IsSchedulerOf scheduler' (test_workload setting) (halted_if first_fault (progress_of_tests setting (events ++ event ∷ [])).schedule)
  scheduler_then scheduler' event move same step =
      subst (IsSchedulerOf scheduler' (test_workload setting))
      (halted_after (test_workload setting) first_fault schedule move ∙ ap (λ (m : Move). halted_if first_fault (after_move (test_workload setting) schedule m)) (sym same) ∙ ap (halted_if first_fault) (sym (schedule_then event))) step

  none_gone : (event : Event) → is_gone event ≡ false → list_any is_gone events ≡ false → list_any is_gone (events ++ event ∷ []) ≡ false
  none_gone event not_gone none = list_any-append is_gone events (event ∷ []) ∙ ap (λ (b : Bool). b || (is_gone event || false)) none ∙ ap (λ (b : Bool). b || false) not_gone

  -- a run is started
  pub started_then : (scheduler' : TestScheduler) (at ticket : ℕ) (request : Request) → start_now (test_workload setting) (halted_if first_fault schedule) ≡ Some at → test_request_at setting at ≡ Some request
      → IsSchedulerOf scheduler' (test_workload setting) (after_move (test_workload setting) (halted_if first_fault schedule) (Starts at ticket)) → AreUnderWay setting (events ++ Started ticket request ∷ []) scheduler' found first_fault
  started_then scheduler' at ticket request start asked step =
      let here = start_while (test_workload setting) first_fault schedule at start in
      let next : next_run setting progress ≡ Some at = start_some (ltb (length schedule.running) setting.slots && not schedule.halted) (next_start (test_workload setting) schedule) at here.1 in
      let move : test_move setting progress (Started ticket request) ≡ Starts at ticket = ap (λ (o : Option ℕ). Starts (unwrap_or o 0) ticket) next in
      record {
        moves = lawful_more setting events (Started ticket request) is.moves (subst (IsLawfulMove (test_workload setting) schedule) (sym move) here.1);
        requests = requests_more setting empty_tests events (Started ticket request) is.requests (ap (option_and_then (test_request_at setting)) next ∙ asked);
        greedy = λ none. greedy_more setting events (Started ticket request) (is.greedy none) (record {});
        none_lost = λ none. none_gone (Started ticket request) refl (is.none_lost none);
        in_step = scheduler_then scheduler' (Started ticket request) (Starts at ticket) move step;
        found_all = λ none. is.found_all none ∙ sym (found_started setting events ticket request);
      }

  none_now : start_now (test_workload setting) (halted_if first_fault schedule) ≡ None → first_fault ≡ false → start_now (test_workload setting) schedule ≡ None
  none_now none not_first_fault = ap (start_now (test_workload setting)) (sym (halted_not schedule)) ∙ ap (λ (b : Bool). start_now (test_workload setting) (halted_if b schedule)) (sym not_first_fault) ∙ none

  -- a run has ended
  pub ended_then : (scheduler' : TestScheduler) (found' : List RunEnd) (ticket : ℕ) (exit : Exit) (ok : Bool) → passed_at setting (position_of ticket schedule.running) exit ≡ ok → IsTrue (is_running schedule ticket)
      → start_now (test_workload setting) (halted_if first_fault schedule) ≡ None → IsSchedulerOf scheduler' (test_workload setting) (after_move (test_workload setting) (halted_if first_fault schedule) (Ends ticket ok exit.output))
      → (found ≡ test_ends setting events → found' ≡ test_ends setting (events ++ Ended ticket exit ∷ []))
      → AreUnderWay setting (events ++ Ended ticket exit ∷ []) scheduler' found' first_fault
  ended_then scheduler' found' ticket exit ok passed runs none step kept = record {
    moves = lawful_more setting events (Ended ticket exit) is.moves runs;
    requests = requests_more setting empty_tests events (Ended ticket exit) is.requests (record {});
    greedy = λ not_first_fault. greedy_more setting events (Ended ticket exit) (is.greedy not_first_fault) (none_now none not_first_fault);
    none_lost = λ not_first_fault. none_gone (Ended ticket exit) refl (is.none_lost not_first_fault);
    in_step = scheduler_then scheduler' (Ended ticket exit) (Ends ticket ok exit.output) (ap (λ passes. Ends ticket passes exit.output) passed) step;
    found_all = λ not_first_fault. kept (is.found_all not_first_fault);
  }

  module _ (first_fault' : Bool) (faulty : first_fault' ≡ true) where
    -- a run has ended, but there was no memory for its verdicts
    pub given_up_then : (scheduler' : TestScheduler) (found' : List RunEnd) (ticket : ℕ) (exit : Exit) → IsTrue (is_running schedule ticket)
        → ((ok : Bool) → IsSchedulerOf scheduler' (test_workload setting) (after_move (test_workload setting) (after_move (test_workload setting) (halted_if first_fault schedule) (Ends ticket ok exit.output)) Halts))
        → AreUnderWay setting (events ++ Ended ticket exit ∷ []) scheduler' found' first_fault'
    given_up_then scheduler' found' ticket exit runs step =
        let ok : Bool = passed_at setting (position_of ticket schedule.running) exit in
        record {
          moves = lawful_more setting events (Ended ticket exit) is.moves runs;
          requests = requests_more setting empty_tests events (Ended ticket exit) is.requests (record {});
          greedy = never first_fault' faulty;
          none_lost = never first_fault' faulty;
          in_step = subst (IsSchedulerOf scheduler' (test_workload setting))
              (ap (λ (c : SchedulerState). after_move (test_workload setting) c Halts) (halted_after (test_workload setting) first_fault schedule (Ends ticket ok exit.output))
              ∙ halts_now (test_workload setting) first_fault (after_move (test_workload setting) schedule (Ends ticket ok exit.output)) ∙ ap (halted_if true) (sym (schedule_then (Ended ticket exit)))
              ∙ ap (λ (b : Bool). halted_if b (progress_of_tests setting (events ++ Ended ticket exit ∷ [])).schedule) (sym faulty)) (step ok);
          found_all = never first_fault' faulty;
        }

    -- the end of a run is lost
    pub lost_then : (scheduler' : TestScheduler) (ticket : ℕ) → IsTrue (is_running schedule ticket) → IsSchedulerOf scheduler' (test_workload setting) (after_move (test_workload setting) (halted_if first_fault schedule) (Loses ticket))
        → AreUnderWay setting (events ++ Gone ticket ∷ []) scheduler' found first_fault'
    lost_then scheduler' ticket runs step = record {
      moves = lawful_more setting events (Gone ticket) is.moves runs;
      requests = requests_more setting empty_tests events (Gone ticket) is.requests (record {});
      greedy = never first_fault' faulty;
      none_lost = never first_fault' faulty;
      in_step = subst (IsSchedulerOf scheduler' (test_workload setting)) (lost_halts (test_workload setting) first_fault first_fault' schedule ticket ∙ ap (halted_if first_fault') (sym (schedule_then (Gone ticket)))) step;
      found_all = never first_fault' faulty;
    }

    -- a start has failed
    pub halted_then : (scheduler' : TestScheduler) → IsSchedulerOf scheduler' (test_workload setting) (halted_if first_fault' schedule) → AreUnderWay setting events scheduler' found first_fault'
    halted_then scheduler' step = record {
      moves = is.moves;
      requests = is.requests;
      greedy = never first_fault' faulty;
      none_lost = never first_fault' faulty;
      in_step = step;
      found_all = never first_fault' faulty;
    }

  -- a record is answered: there is a fault now, or the scheduler is in step as before
  pub recorded_then : (scheduler' : TestScheduler) (faulty : Bool) → first_fault ≡ false → IsSchedulerOf scheduler' (test_workload setting) (halted_if faulty schedule) → AreUnderWay setting events scheduler' found faulty
  recorded_then scheduler' faulty sound step = record {
    moves = is.moves;
    requests = is.requests;
    greedy = λ none. is.greedy sound;
    none_lost = λ none. is.none_lost sound;
    in_step = step;
    found_all = λ none. is.found_all sound;
  }

  -- no fault is noted where a run is to be started
  pub nothing_first_fault : (at : ℕ) → start_now (test_workload setting) (halted_if first_fault schedule) ≡ Some at → first_fault ≡ false
  nothing_first_fault at start = (start_while (test_workload setting) first_fault schedule at start).0

  -- where no fault was noted and nothing is left to do, all is finished
  pub finished_then : first_fault ≡ false → IsFinished (test_workload setting) (halted_if first_fault schedule) → IsFinished (test_workload setting) schedule
  finished_then not_first_fault finished = subst (IsFinished (test_workload setting)) (ap (λ (b : Bool). halted_if b schedule) not_first_fault ∙ halted_not schedule) finished
