-- One event more.
use Rattle.std.proofs.Common.{◌≡◌, List, [], ◌∷◌, ◌++◌, refl, sym, ap, subst}
use Rattle.base.specs.declared.child.Event.{Event}
use Rattle.run_spec.specs.Moves.{Workload, SchedulerState, Move, empty_schedule, after_moves, LawfulMoves, GreedyMoves, IsLawfulMove, IsGreedyMove}
use Rattle.run_spec.proofs.Journal.{LawfulMoves-append, GreedyMoves-append}
use Rattle.run_spec.specs.TestJournal.{TestSetting, TestProgress, test_workload, test_move, test_moves, after_test, after_tests, empty_tests, progress_of_tests, IsTestRequested, AreTestsRequested}
use Rattle.run_spec.proofs.InOrder.{schedule_after}

pub progress_more : (setting : TestSetting) (progress : TestProgress) (events : List Event) (event : Event) → after_tests setting progress (events ++ event ∷ []) ≡ after_test setting (after_tests setting progress events) event
unfolding after_tests
progress_more setting progress [] event = refl
progress_more setting progress (first ∷ events) event = progress_more setting (after_test setting progress first) events event

pub moves_more : (setting : TestSetting) (progress : TestProgress) (events : List Event) (event : Event)
    → test_moves setting progress (events ++ event ∷ []) ≡ test_moves setting progress events ++ test_move setting (after_tests setting progress events) event ∷ []
unfolding after_tests test_moves
moves_more setting progress [] event = refl
moves_more setting progress (first ∷ events) event = ap (λ moves. test_move setting progress first ∷ moves) (moves_more setting (after_test setting progress first) events event)

one_lawful : (workload : Workload) (schedule : SchedulerState) (move : Move) → IsLawfulMove workload schedule move → LawfulMoves workload schedule (move ∷ [])
unfolding LawfulMoves
one_lawful workload schedule move is = (is, record {})

one_greedy : (workload : Workload) (schedule : SchedulerState) (move : Move) → IsGreedyMove workload schedule move → GreedyMoves workload schedule (move ∷ [])
unfolding GreedyMoves
one_greedy workload schedule move is = (is, record {})

pub lawful_more : (setting : TestSetting) (events : List Event) (event : Event) → LawfulMoves (test_workload setting) empty_schedule (test_moves setting empty_tests events)
    → IsLawfulMove (test_workload setting) (progress_of_tests setting events).schedule (test_move setting (progress_of_tests setting events) event)
    → LawfulMoves (test_workload setting) empty_schedule (test_moves setting empty_tests (events ++ event ∷ []))
lawful_more setting events event lawful is =
    subst (LawfulMoves (test_workload setting) empty_schedule) (sym (moves_more setting empty_tests events event))
    (LawfulMoves-append (test_workload setting) empty_schedule (test_moves setting empty_tests events) (test_move setting (progress_of_tests setting events) event ∷ []) lawful
    (one_lawful (test_workload setting) (after_moves (test_workload setting) empty_schedule (test_moves setting empty_tests events)) (test_move setting (progress_of_tests setting events) event)
    (subst (λ (schedule : SchedulerState). IsLawfulMove (test_workload setting) schedule (test_move setting (progress_of_tests setting events) event)) (schedule_after setting empty_tests events) is)))

pub greedy_more : (setting : TestSetting) (events : List Event) (event : Event) → GreedyMoves (test_workload setting) empty_schedule (test_moves setting empty_tests events)
    → IsGreedyMove (test_workload setting) (progress_of_tests setting events).schedule (test_move setting (progress_of_tests setting events) event)
    → GreedyMoves (test_workload setting) empty_schedule (test_moves setting empty_tests (events ++ event ∷ []))
greedy_more setting events event greedy is =
    subst (GreedyMoves (test_workload setting) empty_schedule) (sym (moves_more setting empty_tests events event))
    (GreedyMoves-append (test_workload setting) empty_schedule (test_moves setting empty_tests events) (test_move setting (progress_of_tests setting events) event ∷ []) greedy
    (one_greedy (test_workload setting) (after_moves (test_workload setting) empty_schedule (test_moves setting empty_tests events)) (test_move setting (progress_of_tests setting events) event)
    (subst (λ (schedule : SchedulerState). IsGreedyMove (test_workload setting) schedule (test_move setting (progress_of_tests setting events) event)) (schedule_after setting empty_tests events) is)))

pub requests_more : (setting : TestSetting) (progress : TestProgress) (events : List Event) (event : Event) → AreTestsRequested setting progress events
    → IsTestRequested setting (after_tests setting progress events) event → AreTestsRequested setting progress (events ++ event ∷ [])
unfolding AreTestsRequested after_tests
requests_more setting progress [] event all is = (is, record {})
requests_more setting progress (first ∷ events) event all is = (all.0, requests_more setting (after_test setting progress first) events event all.1 is)
