-- Both words have 64 bits.
use Rattle.std.proofs.Common.{arith}
use Rattle.std.proofs.lemmas.Nat.{or_lt}
use Rattle.vhdl_scope.proofs.row.with_bits.Goals as goal

pub returns-clause-fits : goal.returns-clause-fits
returns-clause-fits c = or_lt 64 c.args.word c.args.other (omega (arith, c.ranges.word)) (omega (arith, c.ranges.other))
