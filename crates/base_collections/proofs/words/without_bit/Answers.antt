-- What remains to be proved of `without_bit`.
use Rattle.std.proofs.Common.{w64}
use Rattle.std.proofs.lemmas.Nat.Bits.{bit_at_clear_same, bit_at_clear_other}
use Rattle.base_collections.proofs.words.without_bit.Goals as goal

pub returns-clause-is : goal.returns-clause-is
returns-clause-is c = bit_at_clear_same w64 c.args.word c.args.k c.requires

pub returns-clause-others : goal.returns-clause-others
returns-clause-others c = bit_at_clear_other w64 c.args.word c.args.k c.requires
