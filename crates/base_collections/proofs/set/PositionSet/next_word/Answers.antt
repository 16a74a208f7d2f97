-- What remains to be proved of `next_word`.
use Rattle.std.proofs.Common.{arith}
use Rattle.base_collections.proofs.WordBits.{none_next, next_found}
use Rattle.base_collections.proofs.set.PositionSet.next_word.Goals as goal

pub returns-then-bits-ne0 : goal.returns-then-bits-ne0
returns-then-bits-ne0 c =
    next_found c.args.self.now.words c.args.start c.loop-word.word c.lowest_bit.result c.loop-word.auto.word c.loop-word.invariant c.lowest_bit.ensures.within c.lowest_bit.ensures.is c.lowest_bit.ensures.low

pub returns : goal.returns
returns c = none_next c.args.self.now.words c.args.start (λ k from lt. c.loop-word.invariant k from (omega arith))
