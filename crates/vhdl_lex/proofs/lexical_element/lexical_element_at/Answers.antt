-- Each byte leads to the row of its lexical element.
use Rattle.std.proofs.Common.{◌≡◌, ℕ, ◌+◌, ◌≤◌, slice_index, true, inl, inr, arith, ◌==◌}
use Rattle.std.proofs.lemmas.Bool.Decides.{nat_tests}
use Rattle.vhdl_spec.specs.Tokens.{is_tick_at, is_word_byte, is_number_byte, row_at}
use Rattle.std.proofs.Common.{◌⊎◌}
use Rattle.vhdl_spec.specs.Tokens.{token, blank}
use Rattle.base.specs.declared.lexical.TokenKind.TheVariants.{Symbol}
use Rattle.vhdl_lex.proofs.lexical_element.lexical_element_at.Goals as goal
use Rattle.vhdl_lex.proofs.lexical_element.lexical_element_at.Goals.{in_default-via-then-this-lt65+then-this-lt9, in_default-via-then-this-lt65+else-this-lt9+else-this-lt14+then-this-lt47, in_default-via-then-this-lt65+else-this-lt9+else-this-lt14+else-this-lt47+else-this-lt58, in_default-via-else-this-lt65+else-this-lt91+then-this-lt96, in_default-via-else-this-lt65+else-this-lt91+else-this-lt96+else-this-lt123+then-this-lt128, then-this-lt91, else-this-lt91+else-this-lt96+then-this-lt123, in-32-1, in_default+then-this-lt65+else-this-lt9+then-this-lt14}
use Rattle.vhdl_lex.proofs.Rows.{word_row, number_row, blank_row, space_row, directive_row, low_symbol_row, delimiter_symbol_row, middle_symbol_row, bracket_symbol_row, high_symbol_row}
use Rattle.vhdl_lex.proofs.Longest.{word_longest, number_longest, directive_longest, directive_gap, blank_longest, blank_gap, symbol_longest}

letter_in_word : (b : ℕ) → ((97 ≤ b) × (b ≤ 122)) ⊎ ((65 ≤ b) × (b ≤ 90)) → is_word_byte b ≡ true
letter_in_word b (inl h) = grind (arith, nat_tests, h.0, h.1)
letter_in_word b (inr h) = grind (arith, nat_tests, h.0, h.1)

digit_in_number : (b : ℕ) → 48 ≤ b → b ≤ 57 → is_number_byte b ≡ true
digit_in_number b low high = grind (arith, nat_tests)

pub returns-in-45 : goal.returns-in-45
returns-in-45 c = c.dash_at.ensures c.args.last

pub returns-in-47 : goal.returns-in-47
returns-in-47 c = c.slash_at.ensures c.args.last

pub returns-in-34 : goal.returns-in-34
returns-in-34 c = c.quote_at.ensures c.args.last

pub returns-in-92 : goal.returns-in-92
returns-in-92 c = c.backslash_at.ensures c.args.last

pub returns-in-128-to-255 : goal.returns-in-128-to-255
returns-in-128-to-255 c = c.high_at.ensures c.args.last

pub returns-in-96 : goal.returns-in-96
returns-in-96 c = let text = c.args.text.now in let at = c.args.at in
    directive_gap text c.args.last at c.line_end.result (directive_row (at == 0) (is_tick_at text c.args.last) (slice_index text at) (slice_index text (at + 1)) (slice_index text (at + 2)) c.in-96.is) (directive_longest text at c.line_end.result c.in-96.is c.line_end.ensures)

pub returns-in-48-to-57 : goal.returns-in-48-to-57
returns-in-48-to-57 c = let text = c.args.text.now in let at = c.args.at in
    record { first = (number_row (at == 0) (is_tick_at text c.args.last) (slice_index text at) (slice_index text (at + 1)) (slice_index text (at + 2)) (omega arith) (omega arith)); longest = number_longest text at c.number_end.result (digit_in_number (slice_index text at) (omega arith) (omega arith)) c.number_end.ensures }

pub returns-in-97-to-122 : goal.returns-in-97-to-122
returns-in-97-to-122 c = let text = c.args.text.now in let at = c.args.at in
    let letter : ((97 ≤ slice_index text at) × (slice_index text at ≤ 122)) ⊎ ((65 ≤ slice_index text at) × (slice_index text at ≤ 90)) = elim c.in-97-to-122-1.branch [ then-this-lt91 w ↦ inr (omega arith, omega arith) | else-this-lt91+else-this-lt96+then-this-lt123 w ↦ inl (omega arith, omega arith) ] in
    record { first = (word_row (at == 0) (is_tick_at text c.args.last) (slice_index text at) (slice_index text (at + 1)) (slice_index text (at + 2)) letter); longest = word_longest text at c.word_end.result (letter_in_word (slice_index text at) letter) c.word_end.ensures }

pub returns-in_default : goal.returns-in_default
returns-in_default c = let text = c.args.text.now in let at = c.args.at in
    let first : row_at text c.args.last at ≡ token Symbol = elim c.in_default.branch [
      | in_default-via-then-this-lt65+then-this-lt9 w ↦ (low_symbol_row (at == 0) (is_tick_at text c.args.last) (slice_index text at) (slice_index text (at + 1)) (slice_index text (at + 2)) (omega arith))
      | in_default-via-then-this-lt65+else-this-lt9+else-this-lt14+then-this-lt47 w ↦ (delimiter_symbol_row (at == 0) (is_tick_at text c.args.last) (slice_index text at) (slice_index text (at + 1)) (slice_index text (at + 2)) (omega arith) (omega arith) (λ is. omega arith) (λ is. omega arith) (λ is. omega arith) (λ is. omega arith))
      | in_default-via-then-this-lt65+else-this-lt9+else-this-lt14+else-this-lt47+else-this-lt58 w ↦ (middle_symbol_row (at == 0) (is_tick_at text c.args.last) (slice_index text at) (slice_index text (at + 1)) (slice_index text (at + 2)) (omega arith) (omega arith))
      | in_default-via-else-this-lt65+else-this-lt91+then-this-lt96 w ↦ (bracket_symbol_row (at == 0) (is_tick_at text c.args.last) (slice_index text at) (slice_index text (at + 1)) (slice_index text (at + 2)) (omega arith) (omega arith) (λ is. omega arith))
      | in_default-via-else-this-lt65+else-this-lt91+else-this-lt96+else-this-lt123+then-this-lt128 w ↦ (high_symbol_row (at == 0) (is_tick_at text c.args.last) (slice_index text at) (slice_index text (at + 1)) (slice_index text (at + 2)) (omega arith) (omega arith))
    ] in
    record { first = first; longest = symbol_longest text at c.requires.within }

pub returns-in-9-to-13 : goal.returns-in-9-to-13
returns-in-9-to-13 c = let text = c.args.text.now in let at = c.args.at in
    let first : row_at text c.args.last at ≡ blank = elim c.in-9-to-13-1.branch [
      | in-32-1 w ↦ (space_row (at == 0) (is_tick_at text c.args.last) (slice_index text at) (slice_index text (at + 1)) (slice_index text (at + 2)) (omega arith))
      | in_default+then-this-lt65+else-this-lt9+then-this-lt14 w ↦ (blank_row (at == 0) (is_tick_at text c.args.last) (slice_index text at) (slice_index text (at + 1)) (slice_index text (at + 2)) (omega arith) (omega arith))
    ] in
    blank_gap text c.args.last at (at + 1) first (blank_longest text at c.requires.within)
