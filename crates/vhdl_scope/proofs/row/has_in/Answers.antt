-- The bit is read from its word.
use Rattle.std.proofs.Common.{◌∙◌, arith}
use Rattle.vhdl_scope.proofs.RowLemmas.{has_past, has_there}
use Rattle.vhdl_scope.proofs.row.has_in.Goals as goal

pub returns-then-at-words : goal.returns-then-at-words
returns-then-at-words c = has_past c.args.words c.args.runs.now c.args.number c.if-at-words.true

pub returns : goal.returns
returns c = c.has_bit.ensures ∙ has_there c.args.words c.args.runs.now c.args.number c.word_at.result c.if-at-words.false c.word_at.ensures
