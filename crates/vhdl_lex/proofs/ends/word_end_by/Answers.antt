-- The run stops at the first bit that is set.
use Rattle.vhdl_lex.proofs.ends.word_end_by.Goals as goal

pub returns-in-Some : goal.returns-in-Some
returns-in-Some c = c.requires.stops c.args.from c.in-Some.end c.requires.ordered c.in-Some.ensures
