-- What remains to be proved of `insert`.
use Rattle.std.proofs.Common.{arith}
use Rattle.base_collections.proofs.WordBits.{has_written, has_other}
use Rattle.base_collections.proofs.set.PositionSet.insert.Goals as goal

pub returns-clause-is : goal.returns-clause-is
returns-clause-is c = has_written c.args.self.now.words c.args.at c.with_bit.result (omega arith) c.with_bit.ensures.is

pub returns-clause-others : goal.returns-clause-others
returns-clause-others c other apart =
    has_other c.args.self.now.words c.args.at c.with_bit.result other (omega arith) apart (λ i within. c.with_bit.ensures.others i)
