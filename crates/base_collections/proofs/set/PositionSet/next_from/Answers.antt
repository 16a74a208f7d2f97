-- What remains to be proved of `next_from`.
use Rattle.std.proofs.Common.{arith}
use Rattle.base_collections.proofs.WordBits.{none_past, next_down, later_down}
use Rattle.base_collections.proofs.set.PositionSet.next_from.Goals as goal

pub returns-then-word-ge64 : goal.returns-then-word-ge64
returns-then-word-ge64 c = none_past c.args.self.now.words c.args.from (omega arith)

pub returns-then-bits-ne0 : goal.returns-then-bits-ne0
returns-then-bits-ne0 c =
    next_down c.args.self.now.words c.args.from c.moved_down-bits.result c.lowest_bit.result (omega arith) c.moved_down-bits.ensures.down c.moved_down-bits.ensures.above c.lowest_bit.ensures.is c.lowest_bit.ensures.low

pub returns : goal.returns
returns c = later_down c.args.self.now.words c.args.from c.moved_down-bits.result c.next_word.result (omega arith) c.moved_down-bits.ensures.down (omega arith) c.next_word.ensures
