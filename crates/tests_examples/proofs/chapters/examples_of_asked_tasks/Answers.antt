-- Answers to the goals of `examples_of_asked_tasks`.
use Rattle.tests_examples.proofs.AskedTasks.{tasks_of_settings, whole_readings}
use Rattle.tests_examples.proofs.chapters.examples_of_asked_tasks.Goals as goal

pub returns-clause-tasks_of_settings : goal.returns-clause-tasks_of_settings
returns-clause-tasks_of_settings c = tasks_of_settings

pub returns-clause-whole_readings : goal.returns-clause-whole_readings
returns-clause-whole_readings c = whole_readings
