-- Where an item can begin, the delimiter of the word is the next one at level.
use Rattle.vhdl_units.proofs.DelimiterTable.{next_delimiter_of}
use Rattle.vhdl_units.proofs.class.opens_subprogram.Goals as goal

pub has_body-requires-clause-delimiter : goal.has_body-requires-clause-delimiter
has_body-requires-clause-delimiter c =
    let may = c.may_open.ensures.0 c.if-may_open.true in
    next_delimiter_of c.args.roles.now c.args.delimiters.now c.args.start c.args.at c.requires.delimiters c.requires.counts.ordered c.requires.within c.requires.word may.level
