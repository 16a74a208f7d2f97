-- The bit is set in its word.
use Rattle.vhdl_scope.proofs.BitLemmas.{with_bit}
use Rattle.vhdl_scope.proofs.bits.set_bit.Goals as goal

pub returns-clause-bits : goal.returns-clause-bits
returns-clause-bits c = with_bit c.args.row.now c.args.number c.requires
