-- What remains to be proved of `moved_down`.
use Rattle.std.proofs.Common.{◌∙◌}
use Rattle.std.proofs.lemmas.Nat.Bits.{bit_at_above}
use Rattle.base_collections.proofs.WordBits.{bit_at-down}
use Rattle.base_collections.proofs.words.moved_down.Goals as goal

pub returns-clause-down : goal.returns-clause-down
returns-clause-down c i = bit_at-down c.args.word c.args.by i

pub returns-clause-above : goal.returns-clause-above
returns-clause-above c i le = bit_at-down c.args.word c.args.by i ∙ bit_at_above c.args.word 64 _ c.ranges.word.fits le
