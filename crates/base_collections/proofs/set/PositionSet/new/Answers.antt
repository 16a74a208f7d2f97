-- What remains to be proved of `new`.
use Rattle.base_collections.proofs.WordBits.{has_not_in_none}
use Rattle.base_collections.proofs.set.PositionSet.new.Goals as goal

pub returns : goal.returns
returns c = has_not_in_none 64
