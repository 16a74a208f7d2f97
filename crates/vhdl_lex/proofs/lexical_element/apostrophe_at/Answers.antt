-- An apostrophe is a character literal or a tick.
use Rattle.std.proofs.Common.{◌≡◌, ◌+◌, slice_index, sym, ◌∙◌, arith, ◌==◌}
use Rattle.std.proofs.lemmas.List.{get_or_past}
use Rattle.vhdl_spec.specs.Tokens.{is_tick_at, row_at}
use Rattle.vhdl_spec.specs.Tokens.{token}
use Rattle.base.specs.declared.lexical.TokenKind.TheVariants.{Tick}
use Rattle.vhdl_lex.proofs.lexical_element.apostrophe_at.Goals as goal
use Rattle.vhdl_lex.proofs.lexical_element.apostrophe_at.Goals.{else-at-text-via-then-at-text+then-text-at-eq39+else-not-is_tick_at, else-at-text-via-then-at-text+else-text-at-eq39, else-at-text-via-else-at-text}
use Rattle.vhdl_lex.proofs.Rows.{char_row, tick_row, lone_row}
use Rattle.vhdl_lex.proofs.Longest.{char_longest, tick_longest}

pub returns-then-not-is_tick_at : goal.returns-then-not-is_tick_at
returns-then-not-is_tick_at c = let text = c.args.text.now in let at = c.args.at in
    record { first = (char_row (at == 0) (is_tick_at text c.args.last) (slice_index text at) (slice_index text (at + 1)) (slice_index text (at + 2)) c.requires.apostrophe c.if-text-at-eq39.true (sym c.is_tick_at.ensures ∙ c.if-not-is_tick_at.true)); longest = char_longest text at (omega arith) }

pub returns-else-at-text : goal.returns-else-at-text
returns-else-at-text c = let text = c.args.text.now in let at = c.args.at in
    let first : row_at text c.args.last at ≡ token Tick = elim c.else-at-text.branch [
      | else-at-text-via-then-at-text+then-text-at-eq39+else-not-is_tick_at w ↦ (tick_row (at == 0) (is_tick_at text c.args.last) (slice_index text at) (slice_index text (at + 1)) (slice_index text (at + 2)) c.requires.apostrophe (sym w.is_tick_at.ensures ∙ w.if-not-is_tick_at.false))
      | else-at-text-via-then-at-text+else-text-at-eq39 w ↦ (lone_row (at == 0) (is_tick_at text c.args.last) (slice_index text at) (slice_index text (at + 1)) (slice_index text (at + 2)) c.requires.apostrophe w.if-text-at-eq39.false)
      | else-at-text-via-else-at-text w ↦ (lone_row (at == 0) (is_tick_at text c.args.last) (slice_index text at) (slice_index text (at + 1)) (slice_index text (at + 2)) c.requires.apostrophe (λ is. absurd (omega (arith, is, get_or_past text (at + 2) 0 w.if-at-text.false))))
    ] in
    record { first = first; longest = tick_longest text at c.requires.within }
