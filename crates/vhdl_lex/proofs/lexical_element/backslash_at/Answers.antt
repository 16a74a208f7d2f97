-- A backslash is an extended identifier or a fault.
use Rattle.std.proofs.Common.{◌+◌, slice_index, Some, None, refl, ◌==◌}
use Rattle.vhdl_spec.specs.Tokens.{is_tick_at}
use Rattle.vhdl_lex.specs.Ends.{IsDelimitedEnd}
use Rattle.vhdl_lex.proofs.lexical_element.backslash_at.Goals as goal
use Rattle.vhdl_spec.proofs.Exists.{delimited_some}
use Rattle.vhdl_lex.proofs.Rows.{extended_row}
use Rattle.vhdl_lex.proofs.Longest.{extended_longest}

pub returns-in-Some : goal.returns-in-Some
returns-in-Some c = λ last. let text = c.args.text.now in let at = c.args.at in
    let is : IsDelimitedEnd 92 text at (Some c.in-Some.end) = c.in-Some.ensures in
    record { first = (extended_row (at == 0) (is_tick_at text last) (slice_index text at) (slice_index text (at + 1)) (slice_index text (at + 2)) c.requires.backslash); longest = extended_longest text at c.in-Some.end (delimited_some 92 text at c.in-Some.end is.1) is }

pub returns-in-None : goal.returns-in-None
returns-in-None c = λ last. let text = c.args.text.now in let at = c.args.at in
    let none : IsDelimitedEnd 92 text at None = c.in-None.ensures in
    (refl, record { first = (extended_row (at == 0) (is_tick_at text last) (slice_index text at) (slice_index text (at + 1)) (slice_index text (at + 2)) c.requires.backslash); no_end = λ end within fits. none end fits })
