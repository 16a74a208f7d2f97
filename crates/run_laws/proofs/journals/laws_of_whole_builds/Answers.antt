-- Answers to the goals of `laws_of_whole_builds`.
use Rattle.run_laws.proofs.JournalSettled.{all_started, all_built, all_steady, all_files_made}
use Rattle.run_laws.proofs.journals.laws_of_whole_builds.Goals as goal

pub returns-clause-started : goal.returns-clause-started
returns-clause-started c = all_started

pub returns-clause-built : goal.returns-clause-built
returns-clause-built c = all_built

pub returns-clause-steady : goal.returns-clause-steady
returns-clause-steady c = all_steady

pub returns-clause-all_made : goal.returns-clause-all_made
returns-clause-all_made c = all_files_made
