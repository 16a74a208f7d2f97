-- What remains to be proved of `remove`.
use Rattle.std.proofs.Common.{arith}
use Rattle.base_collections.proofs.WordBits.{has_cleared, has_other}
use Rattle.base_collections.proofs.set.PositionSet.remove.Goals as goal

pub returns-clause-is : goal.returns-clause-is
returns-clause-is c = has_cleared c.args.self.now.words c.args.at c.without_bit.result (omega arith) c.without_bit.ensures.is

pub returns-clause-others : goal.returns-clause-others
returns-clause-others c other apart =
    has_other c.args.self.now.words c.args.at c.without_bit.result other (omega arith) apart c.without_bit.ensures.others
