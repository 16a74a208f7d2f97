-- A word with a number is reserved, and no other is.
use Rattle.vhdl_lex.proofs.WordTable.{reserved_by_number}
use Rattle.vhdl_lex.proofs.reserved.is_reserved.Goals as goal

pub returns : goal.returns
returns c = reserved_by_number c.args.word.now c.reserved_number.result c.reserved_number.ensures
