-- The table of classes is right for line ends.
use Rattle.vhdl_lex.proofs.Classes.{line_end_class}
use Rattle.vhdl_lex.proofs.class.is_line_end.Goals as goal

pub returns : goal.returns
returns c = line_end_class c.args.byte c.ranges.byte.fits
