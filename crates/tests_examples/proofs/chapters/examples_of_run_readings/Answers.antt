-- Answers to the goals of `examples_of_run_readings`.
use Rattle.tests_examples.proofs.RunReadings.{orders_of_readings, ended_runs, faults_answered}
use Rattle.tests_examples.proofs.chapters.examples_of_run_readings.Goals as goal

pub returns-clause-orders_of_readings : goal.returns-clause-orders_of_readings
returns-clause-orders_of_readings c = orders_of_readings

pub returns-clause-ended_runs : goal.returns-clause-ended_runs
returns-clause-ended_runs c = ended_runs

pub returns-clause-faults_answered : goal.returns-clause-faults_answered
returns-clause-faults_answered c = faults_answered
