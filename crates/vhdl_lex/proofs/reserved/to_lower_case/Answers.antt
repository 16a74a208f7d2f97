-- The table of letters is right at each byte.
use Rattle.vhdl_lex.proofs.WordTable.{lowered_is}
use Rattle.vhdl_lex.proofs.reserved.to_lower_case.Goals as goal

pub returns : goal.returns
returns c = lowered_is c.args.byte c.ranges.byte.fits
