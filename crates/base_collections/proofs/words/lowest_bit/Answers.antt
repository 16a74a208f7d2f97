-- What remains to be proved of `lowest_bit`.
use Rattle.std.proofs.Common.{w64}
use Rattle.std.proofs.lemmas.Nat.Bits.{bit_at-trailing_zeros}
use Rattle.base_collections.proofs.words.lowest_bit.Goals as goal

pub returns-clause-is : goal.returns-clause-is
returns-clause-is c = (bit_at-trailing_zeros w64 c.args.word c.requires (c.ranges.word.fits)).1

pub returns-clause-low : goal.returns-clause-low
returns-clause-low c = (bit_at-trailing_zeros w64 c.args.word c.requires (c.ranges.word.fits)).2
