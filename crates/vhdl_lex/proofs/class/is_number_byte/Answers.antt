-- The table of classes is right for bytes of numbers.
use Rattle.vhdl_lex.proofs.Classes.{number_class}
use Rattle.vhdl_lex.proofs.class.is_number_byte.Goals as goal

pub returns : goal.returns
returns c = number_class c.args.byte c.ranges.byte.fits
