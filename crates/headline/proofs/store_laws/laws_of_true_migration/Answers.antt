-- Answers to the goals of `laws_of_true_migration`.
use Rattle.headline.proofs.TrueRequests.{all_true}
use Rattle.headline.proofs.store_laws.laws_of_true_migration.Goals as goal

pub returns : goal.returns
returns c = record { true_requests = all_true }
