-- A slash is a block comment, a delimiter or a fault.
use Rattle.std.proofs.Common.{◌≢◌, ◌+◌, slice_index, None, refl, arith, ◌==◌}
use Rattle.std.proofs.lemmas.List.{get_or_past}
use Rattle.vhdl_spec.specs.Tokens.{is_tick_at}
use Rattle.vhdl_lex.specs.Ends.{IsCommentEnd}
use Rattle.vhdl_lex.proofs.lexical_element.slash_at.Goals as goal
use Rattle.vhdl_lex.proofs.lexical_element.slash_at.Goals.{else-at-text-via-then-at-text+else-text-at-eq42, else-at-text-via-else-at-text}
use Rattle.vhdl_lex.proofs.Rows.{slash_rows}
use Rattle.vhdl_lex.proofs.Longest.{block_longest, block_gap, symbol_longest}

pub returns-in-Some : goal.returns-in-Some
returns-in-Some c = λ last. let text = c.args.text.now in let at = c.args.at in
    block_gap text last at c.in-Some.end ((slash_rows (at == 0) (is_tick_at text last) (slice_index text at) (slice_index text (at + 1)) (slice_index text (at + 2)) c.requires.slash).0 c.if-text-at-eq42.true) (block_longest text at c.in-Some.end c.in-Some.ensures)

pub returns-in-None : goal.returns-in-None
returns-in-None c = λ last. let text = c.args.text.now in let at = c.args.at in
    let none : IsCommentEnd text at None = c.in-None.ensures in
    (refl, record { first = ((slash_rows (at == 0) (is_tick_at text last) (slice_index text at) (slice_index text (at + 1)) (slice_index text (at + 2)) c.requires.slash).0 c.if-text-at-eq42.true); no_end = λ end within fits. none end fits })

pub returns-else-at-text : goal.returns-else-at-text
returns-else-at-text c = λ last. let text = c.args.text.now in let at = c.args.at in
    let other : slice_index text (at + 1) ≢ 42 = elim c.else-at-text.branch [ else-at-text-via-then-at-text+else-text-at-eq42 w ↦ w.if-text-at-eq42.false | else-at-text-via-else-at-text w ↦ λ is. absurd (omega (arith, is, get_or_past text (at + 1) 0 w.if-at-text.false)) ] in
    record { first = ((slash_rows (at == 0) (is_tick_at text last) (slice_index text at) (slice_index text (at + 1)) (slice_index text (at + 2)) c.requires.slash).1 other); longest = symbol_longest text at c.requires.within }
