-- Answers to the goals of `laws_of_clean_builds`.
use Rattle.run_laws.proofs.CleanViews.{clean_part}
use Rattle.run_laws.proofs.TrueRecords.{records_clean, latest-latest_alone}
use Rattle.run_laws.proofs.laws.laws_of_clean_builds.Goals as goal

pub returns-clause-part : goal.returns-clause-part
returns-clause-part c = clean_part

pub returns-clause-clean : goal.returns-clause-clean
returns-clause-clean c = records_clean

pub returns-clause-latest : goal.returns-clause-latest
returns-clause-latest c = latest-latest_alone
