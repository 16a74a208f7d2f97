use Rattle.base_collections.proofs.Reaching.{first_split, more_splits}
use Rattle.base_collections.proofs.laws.laws_of_splits.Goals as goal

pub returns : goal.returns
returns c = record { first = first_split; more = more_splits }
