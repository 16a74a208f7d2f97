-- The letters of a word are those of the definition.
use Rattle.std.proofs.Common.{slice_range, ◌∙◌, arith}
use Rattle.vhdl_lex.specs.declared.reserved.TheConstants.{LETTERS}
use Rattle.vhdl_lex.proofs.WordTable.{starts_ordered, start_within, letters_are}
use Rattle.vhdl_lex.proofs.reserved.reserved_word.Goals as goal

pub slice_bounds-result-count : goal.slice_bounds-result-count
slice_bounds-result-count c = omega (arith, starts_ordered c.args.number c.requires, c.start_of-start.ensures, c.start_of-end.ensures)

pub slice_bounds-result-start : goal.slice_bounds-result-start
slice_bounds-result-start c = omega (arith, starts_ordered c.args.number c.requires, c.start_of-start.ensures, c.start_of-end.ensures)

pub slice_bounds-result-end : goal.slice_bounds-result-end
slice_bounds-result-end c = omega (arith, start_within c.args.number c.requires, c.start_of-end.ensures)

pub returns : goal.returns
returns c = (λ i. slice_range LETTERS (c.start_of-start.ensures i) (c.start_of-end.ensures i)) ∙ letters_are c.args.number c.requires
