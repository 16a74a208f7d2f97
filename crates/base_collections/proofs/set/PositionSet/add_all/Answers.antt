-- What remains to be proved of `add_all`.
use Rattle.std.proofs.Common.{arith}
use Rattle.base_collections.proofs.WordBits.{set_in_both, joined_words}
use Rattle.base_collections.proofs.set.PositionSet.add_all.Goals as goal

pub returns : goal.returns
returns c =
    set_in_both c.loop-word.self.words c.args.self.now.words c.args.other.now.words
    (joined_words c.loop-word.self.words c.args.self.now.words c.args.other.now.words c.loop-word.word (omega arith) (omega arith) c.loop-word.invariant.joined c.loop-word.invariant.rest)
