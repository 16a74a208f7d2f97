-- A letter begins a word, and a plain delimiter is one whatever is around it.
use Rattle.std.proofs.Common.{◌≡◌, ◌+◌, ◌||◌, ◌==◌, Bool, true, slice_index, sym, ◌∙◌, ap}
use Rattle.std.specs.Char.{is_ascii_alphabetic, is_ascii_digit}
use Rattle.vhdl_spec.specs.Tokens.{is_tick_at, is_word_byte}
use Rattle.vhdl_lex.specs.LexicalElements.{is_plain, last_of}
use Rattle.vhdl_lex.proofs.Longest.{symbol_longest, word_longest}
use Rattle.vhdl_lex.proofs.Rows.{letter_row, plain_row}
use Rattle.vhdl_lex.proofs.lexical_element.next_lexical_element.Goals as goal

pub returns-then-is_ascii_alphabetic : goal.returns-then-is_ascii_alphabetic
returns-then-is_ascii_alphabetic c =
    let text = c.args.text.now in
    let at = c.args.at in
    let byte = slice_index text at in
    let letter : is_ascii_alphabetic byte ≡ true = sym c.is_ascii_alphabetic.ensures.value ∙ c.if-is_ascii_alphabetic.true in
    let in_word : is_word_byte byte ≡ true = ap (λ (b : Bool). b || is_ascii_digit byte || byte == 95) letter in
    record {
      first = letter_row (at == 0) (is_tick_at text (last_of c.args.tokens.now)) byte (slice_index text (at + 1)) (slice_index text (at + 2)) letter;
      longest = word_longest text at c.word_end_by.result in_word c.word_end_by.ensures;
    }

pub returns-then-is_plain : goal.returns-then-is_plain
returns-then-is_plain c =
    let text = c.args.text.now in
    let at = c.args.at in
    let byte = slice_index text at in
    let plain : is_plain byte ≡ true = sym c.is_plain.ensures ∙ c.if-is_plain.true in
    record {
      first = plain_row (at == 0) (is_tick_at text (last_of c.args.tokens.now)) byte (slice_index text (at + 1)) (slice_index text (at + 2)) plain;
      longest = symbol_longest text at c.requires.within;
    }
