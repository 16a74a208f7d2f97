-- Where the loops end, the longest lexical element ends.
use Rattle.std.proofs.Common.{◌≡◌, ℕ, ◌+◌, ◌<◌, ◌≤◌, Bool, true, false, not, List, [], ◌∷◌, length, slice_index, Option, Some, refl, sym, ap, subst, ⊎_elim, arith}
use Rattle.std.proofs.str.Laws.{order}
use Rattle.base.specs.declared.lexical.Token.{Token}
use Rattle.base.specs.declared.lexical.TokenKind.TheVariants.{Word, Extended, Number, Str, Char, Tick, Symbol, High}
use Rattle.vhdl_spec.specs.Tokens.{Row, byte_order_mark, blank, line_comment, block_comment, tool_directive, token, is_line_end, is_word_byte, is_number_byte, EachByte, IsLongest, row_at}
use Rattle.vhdl_lex.specs.Ends.{IsRunEnd, IsCommentEnd, IsDelimitedEnd}
use Rattle.vhdl_lex.specs.LexicalElements.{Skips}

-- the bytes that pass a test, from an offset on, end here
record Run (test : ℕ → Bool) (text : List ℕ) (at end : ℕ) : Type 0 where
  some : at < end
  within : end ≤ length text
  each : EachByte test text at end
  longest : (other : ℕ) → other ≤ length text → EachByte test text at other → other ≤ end

run : (test : ℕ → Bool) (text : List ℕ) (at end : ℕ) → test (slice_index text at) ≡ true → IsRunEnd test text (at + 1) end → Run test text at end
run test text at end first is = record {
  some = omega (arith, is.reaches);
  within = is.within;
  each = λ offset from below. ⊎_elim (λ h. is.each offset (omega arith) below) (λ h. let same : at ≡ offset = omega arith in subst (λ (n : ℕ). test (slice_index text n) ≡ true) same first) (order at offset);
  longest = λ other within each. ⊎_elim (λ h. let passes : test (slice_index text end) ≡ true = each end (omega (arith, is.reaches)) h in let fails : test (slice_index text end) ≡ false = is.stops (omega arith) in cc) (λ h. h) (order end other);
}

module _ (text : List ℕ) (at end : ℕ) where
  pub word_longest : is_word_byte (slice_index text at) ≡ true → IsRunEnd is_word_byte text (at + 1) end → IsLongest (token Word) text at end
  word_longest first is = let r = run is_word_byte text at end first is in record { some = r.some; within = r.within; fits = r.each; longest = r.longest }

  pub number_longest : is_number_byte (slice_index text at) ≡ true → IsRunEnd is_number_byte text (at + 1) end → IsLongest (token Number) text at end
  number_longest first is = let r = run is_number_byte text at end first is in record { some = r.some; within = r.within; fits = r.each; longest = r.longest }

  pub comment_longest : slice_index text at ≡ 45 → IsRunEnd (λ byte. not (is_line_end byte)) text (at + 1) end → IsLongest line_comment text at end
  comment_longest first is = let r = run (λ byte. not (is_line_end byte)) text at end (ap (λ (b : ℕ). not (is_line_end b)) first) is in record { some = r.some; within = r.within; fits = r.each; longest = r.longest }

  pub directive_longest : slice_index text at ≡ 96 → IsRunEnd (λ byte. not (is_line_end byte)) text (at + 1) end → IsLongest tool_directive text at end
  directive_longest first is = let r = run (λ byte. not (is_line_end byte)) text at end (ap (λ (b : ℕ). not (is_line_end b)) first) is in record { some = r.some; within = r.within; fits = r.each; longest = r.longest }

module _ (text : List ℕ) (at : ℕ) (within : at < length text) where
  pub blank_longest : IsLongest blank text at (at + 1)
  blank_longest = record { some = omega arith; within = omega arith; fits = refl; longest = λ other in_text is. omega arith }

  pub tick_longest : IsLongest (token Tick) text at (at + 1)
  tick_longest = record { some = omega arith; within = omega arith; fits = refl; longest = λ other in_text is. omega arith }

  pub symbol_longest : IsLongest (token Symbol) text at (at + 1)
  symbol_longest = record { some = omega arith; within = omega arith; fits = refl; longest = λ other in_text is. omega arith }

  pub high_longest : IsLongest (token High) text at (at + 1)
  high_longest = record { some = omega arith; within = omega arith; fits = refl; longest = λ other in_text is. omega arith }

module _ (text : List ℕ) (at : ℕ) (reaches : at + 3 ≤ length text) where
  pub char_longest : IsLongest (token Char) text at (at + 3)
  char_longest = record { some = omega arith; within = omega arith; fits = refl; longest = λ other in_text is. omega arith }

  pub delimiter_longest : IsLongest byte_order_mark text at (at + 3)
  delimiter_longest = record { some = omega arith; within = omega arith; fits = refl; longest = λ other in_text is. omega arith }

pub block_longest : (text : List ℕ) (at end : ℕ) → IsCommentEnd text at (Some end) → IsLongest block_comment text at end
block_longest text at end is = record { some = omega (arith, is.1.up_to, is.1.after); within = is.0; fits = is.1; longest = λ other within fits. is.2 other fits }

pub string_longest : (text : List ℕ) (at end : ℕ) → at < end → IsDelimitedEnd 34 text at (Some end) → IsLongest (token Str) text at end
string_longest text at end some is = record { some = some; within = is.0; fits = is.1; longest = λ other within fits. is.2 other fits }

pub extended_longest : (text : List ℕ) (at end : ℕ) → at < end → IsDelimitedEnd 92 text at (Some end) → IsLongest (token Extended) text at end
extended_longest text at end some is = record { some = some; within = is.0; fits = is.1; longest = λ other within fits. is.2 other fits }

-- one gap
abbrev IsGap : Row → Type 0
IsGap byte_order_mark = Unit {0}
IsGap blank = Unit {0}
IsGap line_comment = ⊥
IsGap block_comment = Unit {0}
IsGap tool_directive = Unit {0}
IsGap (token kind) = ⊥

gap : (row : Row) → IsGap row → (text : List ℕ) (last : Option Token) (at end : ℕ) → row_at text last at ≡ row → IsLongest row text at end → Skips text last at end
gap byte_order_mark is text last at end first longest = record { lexical_elements = record { row = byte_order_mark; start = at; end = end } ∷ []; leads = (record { starts = refl; first = sym first; longest = longest }, refl); tokens = refl; comments = refl; some = longest.some; within = longest.within }
gap blank is text last at end first longest = record { lexical_elements = record { row = blank; start = at; end = end } ∷ []; leads = (record { starts = refl; first = sym first; longest = longest }, refl); tokens = refl; comments = refl; some = longest.some; within = longest.within }
gap line_comment is text last at end first longest = absurd is
gap block_comment is text last at end first longest = record { lexical_elements = record { row = block_comment; start = at; end = end } ∷ []; leads = (record { starts = refl; first = sym first; longest = longest }, refl); tokens = refl; comments = refl; some = longest.some; within = longest.within }
gap tool_directive is text last at end first longest = record { lexical_elements = record { row = tool_directive; start = at; end = end } ∷ []; leads = (record { starts = refl; first = sym first; longest = longest }, refl); tokens = refl; comments = refl; some = longest.some; within = longest.within }
gap (token kind) is text last at end first longest = absurd is

module _ (text : List ℕ) (last : Option Token) (at end : ℕ) where
  pub delimiter_gap : row_at text last at ≡ byte_order_mark → IsLongest byte_order_mark text at end → Skips text last at end
  delimiter_gap first longest = gap byte_order_mark tt text last at end first longest

  pub blank_gap : row_at text last at ≡ blank → IsLongest blank text at end → Skips text last at end
  blank_gap first longest = gap blank tt text last at end first longest

  pub block_gap : row_at text last at ≡ block_comment → IsLongest block_comment text at end → Skips text last at end
  block_gap first longest = gap block_comment tt text last at end first longest

  pub directive_gap : row_at text last at ≡ tool_directive → IsLongest tool_directive text at end → Skips text last at end
  directive_gap first longest = gap tool_directive tt text last at end first longest
