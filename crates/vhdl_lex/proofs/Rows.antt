-- Which row of the table fits first, by the bytes that stand there.
use Rattle.std.proofs.Common.{◌≡◌, ◌≢◌, ℕ, ◌<◌, ◌≤◌, ◌⊎◌, Bool, true, false, ⊎_elim, arith}
use Rattle.std.proofs.lemmas.Bool.Decides.{nat_tests}
use Rattle.base.specs.declared.lexical.TokenKind.TheVariants.{Word, Extended, Number, Str, Char, Tick, Symbol, High}
use Rattle.std.specs.Char.{is_ascii_alphabetic}
use Rattle.vhdl_lex.specs.LexicalElements.{is_plain}
use Rattle.vhdl_spec.specs.Tokens.{is_blank, byte_order_mark, blank, line_comment, block_comment, tool_directive, token, first_row}

module _ (start tick : Bool) (a b c : ℕ) where
  upper_row : 65 ≤ a → a ≤ 90 → first_row start tick a b c ≡ token Word
  unfolding first_row
  upper_row low high = grind (arith, nat_tests)

  lower_row : 97 ≤ a → a ≤ 122 → first_row start tick a b c ≡ token Word
  unfolding first_row
  lower_row low high = grind (arith, nat_tests)

  pub word_row : ((97 ≤ a) × (a ≤ 122)) ⊎ ((65 ≤ a) × (a ≤ 90)) → first_row start tick a b c ≡ token Word
  word_row range = ⊎_elim (λ h. lower_row h.0 h.1) (λ h. upper_row h.0 h.1) range

  pub number_row : 48 ≤ a → a ≤ 57 → first_row start tick a b c ≡ token Number
  unfolding first_row
  number_row low high = grind (arith, nat_tests)

  pub blank_row : 9 ≤ a → a ≤ 13 → first_row start tick a b c ≡ blank
  unfolding first_row
  blank_row low high = grind (arith, nat_tests)

  pub space_row : a ≡ 32 → first_row start tick a b c ≡ blank
  unfolding first_row
  space_row is = grind (arith, nat_tests)

  pub dash_rows : a ≡ 45 → (b ≡ 45 → first_row start tick a b c ≡ line_comment) × (b ≢ 45 → first_row start tick a b c ≡ token Symbol)
  unfolding first_row
  dash_rows is = (λ next. grind (arith, nat_tests), λ next. grind (arith, nat_tests))

  pub slash_rows : a ≡ 47 → (b ≡ 42 → first_row start tick a b c ≡ block_comment) × (b ≢ 42 → first_row start tick a b c ≡ token Symbol)
  unfolding first_row
  slash_rows is = (λ next. grind (arith, nat_tests), λ next. grind (arith, nat_tests))

  pub directive_row : a ≡ 96 → first_row start tick a b c ≡ tool_directive
  unfolding first_row
  directive_row is = grind (arith, nat_tests)

  pub string_row : a ≡ 34 → first_row start tick a b c ≡ token Str
  unfolding first_row
  string_row is = grind (arith, nat_tests)

  pub extended_row : a ≡ 92 → first_row start tick a b c ≡ token Extended
  unfolding first_row
  extended_row is = grind (arith, nat_tests)

  pub char_row : a ≡ 39 → c ≡ 39 → tick ≡ false → first_row start tick a b c ≡ token Char
  unfolding first_row
  char_row is third none = grind (arith, nat_tests)

  pub tick_row : a ≡ 39 → tick ≡ true → first_row start tick a b c ≡ token Tick
  unfolding first_row
  tick_row is stands = grind (arith, nat_tests)

  pub lone_row : a ≡ 39 → c ≢ 39 → first_row start tick a b c ≡ token Tick
  unfolding first_row
  lone_row is third = grind (arith, nat_tests)

  pub delimiter_row : start ≡ true → a ≡ 0xEF → b ≡ 0xBB → c ≡ 0xBF → first_row start tick a b c ≡ byte_order_mark
  unfolding first_row
  delimiter_row at_start first second third = grind (arith, nat_tests)

  pub high_row : 128 ≤ a → start ≡ false → first_row start tick a b c ≡ token High
  unfolding first_row
  high_row high later = grind (arith, nat_tests)

  pub first_high_row : 128 ≤ a → a ≢ 0xEF → first_row start tick a b c ≡ token High
  unfolding first_row
  first_high_row high first = grind (arith, nat_tests)

  pub second_high_row : 128 ≤ a → b ≢ 0xBB → first_row start tick a b c ≡ token High
  unfolding first_row
  second_high_row high second = grind (arith, nat_tests)

  pub third_high_row : 128 ≤ a → c ≢ 0xBF → first_row start tick a b c ≡ token High
  unfolding first_row
  third_high_row high third = grind (arith, nat_tests)

  -- a delimiter, by where its byte lies among those of other lexical elements
  pub low_symbol_row : a < 9 → first_row start tick a b c ≡ token Symbol
  unfolding first_row
  low_symbol_row high = grind (arith, nat_tests)

  pub delimiter_symbol_row : 14 ≤ a → a < 47 → a ≢ 32 → a ≢ 34 → a ≢ 39 → a ≢ 45 → first_row start tick a b c ≡ token Symbol
  unfolding first_row
  delimiter_symbol_row low high h1 h2 h3 h4 = grind (arith, nat_tests)

  pub middle_symbol_row : 58 ≤ a → a < 65 → first_row start tick a b c ≡ token Symbol
  unfolding first_row
  middle_symbol_row low high = grind (arith, nat_tests)

  pub bracket_symbol_row : 91 ≤ a → a < 96 → a ≢ 92 → first_row start tick a b c ≡ token Symbol
  unfolding first_row
  bracket_symbol_row low high h1 = grind (arith, nat_tests)

  pub high_symbol_row : 123 ≤ a → a < 128 → first_row start tick a b c ≡ token Symbol
  unfolding first_row
  high_symbol_row low high = grind (arith, nat_tests)

  pub any_blank_row : is_blank a ≡ true → first_row start tick a b c ≡ blank
  unfolding first_row
  any_blank_row is = grind (arith, nat_tests)

  pub letter_row : is_ascii_alphabetic a ≡ true → first_row start tick a b c ≡ token Word
  unfolding first_row
  letter_row is = grind (arith, nat_tests)

  pub plain_row : is_plain a ≡ true → first_row start tick a b c ≡ token Symbol
  unfolding first_row
  plain_row is = grind (arith, nat_tests)
