-- Answers to the goals of `examples_of_recorded`.
use Rattle.tests_examples.proofs.Recorded.{latest_records, asked_files, current_files, build_commits, true_records}
use Rattle.tests_examples.proofs.chapters.examples_of_recorded.Goals as goal

pub returns-clause-latest_records : goal.returns-clause-latest_records
returns-clause-latest_records c = latest_records

pub returns-clause-asked_files : goal.returns-clause-asked_files
returns-clause-asked_files c = asked_files

pub returns-clause-current_files : goal.returns-clause-current_files
returns-clause-current_files c = current_files

pub returns-clause-build_commits : goal.returns-clause-build_commits
returns-clause-build_commits c = build_commits

pub returns-clause-true_records : goal.returns-clause-true_records
returns-clause-true_records c = true_records
