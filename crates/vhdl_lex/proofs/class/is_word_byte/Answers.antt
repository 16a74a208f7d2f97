-- The table of classes is right for bytes of words.
use Rattle.vhdl_lex.proofs.Classes.{word_class}
use Rattle.vhdl_lex.proofs.class.is_word_byte.Goals as goal

pub returns : goal.returns
returns c = word_class c.args.byte c.ranges.byte.fits
