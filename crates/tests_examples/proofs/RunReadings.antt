-- The examples of "What a run of the program did", by computation.
use Rattle.std.proofs.Common.{arith, codes, refl}
use Rattle.tests_examples.specs.RunReadings.{EndedRuns, FaultsAnswered, OrdersOfReadings}

pub orders_of_readings : OrdersOfReadings
orders_of_readings = record { builds = refl; lists = refl; exports = refl; none_of_tests = refl; none_of_refusal = refl; none_of_limit = refl; none_of_words = refl; none_of_child = refl; report = refl; no_plan = refl; risen = refl; not_risen = refl }

pub ended_runs : EndedRuns
ended_runs = record { done = tt; refused = tt; out_failed = tt; tree_failed = λ ended. ended; no_memory = λ ended. ended }

pub faults_answered : FaultsAnswered
faults_answered = record { prefix_put = record { prefix = codes "Comp"; back = codes "ile passed\n"; parts = refl; added = refl }; nothing_put = refl; tree_rose = omega arith; none_rose = refl; none_falls = λ stand. omega (arith, stand.tree) }
