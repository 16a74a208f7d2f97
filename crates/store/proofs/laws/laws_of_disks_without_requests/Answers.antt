use Rattle.store.proofs.RequestsAdded.{none_in_empty}
use Rattle.store.proofs.laws.laws_of_disks_without_requests.Goals as goal

pub returns : goal.returns
returns c = record { none = none_in_empty }
