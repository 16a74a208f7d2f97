-- A dash is a line comment or a delimiter.
use Rattle.std.proofs.Common.{◌≢◌, ◌+◌, slice_index, arith, ◌==◌}
use Rattle.std.proofs.lemmas.List.{get_or_past}
use Rattle.vhdl_spec.specs.Tokens.{is_tick_at}
use Rattle.vhdl_lex.proofs.lexical_element.dash_at.Goals as goal
use Rattle.vhdl_lex.proofs.lexical_element.dash_at.Goals.{else-at-text-via-then-at-text+else-text-at-eq45, else-at-text-via-else-at-text}
use Rattle.vhdl_lex.proofs.Rows.{dash_rows}
use Rattle.vhdl_lex.proofs.Longest.{comment_longest, symbol_longest}

pub returns-then-text-at-eq45 : goal.returns-then-text-at-eq45
returns-then-text-at-eq45 c = λ last. let text = c.args.text.now in let at = c.args.at in
    record { first = ((dash_rows (at == 0) (is_tick_at text last) (slice_index text at) (slice_index text (at + 1)) (slice_index text (at + 2)) c.requires.dash).0 c.if-text-at-eq45.true); longest = comment_longest text at c.line_end.result c.requires.dash c.line_end.ensures }

pub returns-else-at-text : goal.returns-else-at-text
returns-else-at-text c = λ last. let text = c.args.text.now in let at = c.args.at in
    let other : slice_index text (at + 1) ≢ 45 = elim c.else-at-text.branch [ else-at-text-via-then-at-text+else-text-at-eq45 w ↦ w.if-text-at-eq45.false | else-at-text-via-else-at-text w ↦ λ is. absurd (omega (arith, is, get_or_past text (at + 1) 0 w.if-at-text.false)) ] in
    record { first = ((dash_rows (at == 0) (is_tick_at text last) (slice_index text at) (slice_index text (at + 1)) (slice_index text (at + 2)) c.requires.dash).1 other); longest = symbol_longest text at c.requires.within }
