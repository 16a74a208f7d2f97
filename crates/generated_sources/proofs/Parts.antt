-- A text by its parts: the bytes of each lexical element, and what of lexical element it is. Where each part begins and ends as its kind
-- has it, the lexical elements of the text's cut are these parts.
use Rattle.std.proofs.Common.{◌≡◌, zero, suc, ℕ, ◌+◌, ◌-◌, ◌<◌, ◌≤◌, ◌==◌, ◌&&◌, ◌||◌, Bool, true, false, not, List, [], ◌∷◌, ◌++◌, length, slice_index, Option, refl, sym, ap, subst, ◌∙◌, ⊎_elim, arith}
use Rattle.std.specs.Char.{is_ascii_digit, is_ascii_alphabetic}
use Rattle.std.specs.Int.{is_in_range}
use Rattle.std.specs.List.{list_all}
use Rattle.std.proofs.lemmas.Bool.Decides.{nat_tests}
use Rattle.std.proofs.str.Laws.{order}
use Rattle.base.specs.declared.lexical.Token.{Token}
use Rattle.base.specs.declared.lexical.TokenKind.TheVariants.{Word, Number, Str, Symbol}
use Rattle.vhdl_spec.specs.Tokens.{Row, blank, line_comment, token, first_row, row_at, is_tick_at, is_blank, is_word_byte, is_number_byte, EachByte, IsDelimited, HasForm, IsRight, LexicalElement, LexState, Leads, lex_state_after}
use Rattle.generated_sources.proofs.ByteTests.{begins_with, in_line, is_empty, is_quote, ends_quoted, both_of, either_of, false_both, not_false}
use Rattle.generated_sources.proofs.Rests.{IsRest, rest_after, rest_byte, rest_size}
use Rattle.generated_sources.proofs.Strings.{Quoted, quoted_of, delimited, before_close}

pub data Kind : Type 0 where
  letters : Kind
  number : Kind
  quoted : Kind
  delimiter : Kind
  gap : Kind
  note : Kind

pub record Part : Type 0 where
  pub kind : Kind
  pub bytes : List ℕ

abbrev pub row_of : Kind → Row
row_of letters = token Word
row_of number = token Number
row_of quoted = token Str
row_of delimiter = token Symbol
row_of gap = blank
row_of note = line_comment

-- parts that follow one another, and what comes after them
abbrev pub joined : List Part → List ℕ → List ℕ
joined [] rest = rest
joined (part ∷ parts) rest = part.bytes ++ joined parts rest

abbrev pub end_of : ℕ → Part → ℕ
end_of at part = at + length part.bytes

abbrev pub lexical_element_of : ℕ → Part → LexicalElement
lexical_element_of at part = record { row = row_of part.kind; start = at; end = end_of at part }

-- their lexical elements, from an offset on
abbrev pub lexical_elements_from : ℕ → List Part → List LexicalElement
lexical_elements_from at [] = []
lexical_elements_from at (part ∷ parts) = lexical_element_of at part ∷ lexical_elements_from (end_of at part) parts

-- ## How parts begin and end

-- all pass a test that what comes next doesn't pass
abbrev pub runs : (ℕ → Bool) → List ℕ → List ℕ → Bool
runs test bytes rest = list_all test bytes && not (begins_with test rest)

-- parentheses, a dot, and the bytes from a colon up to an equals sign
abbrev pub is_delimiter : ℕ → Bool
is_delimiter byte = is_in_range 40 41 byte || (byte == 46 || is_in_range 58 61 byte)

abbrev is_dash : ℕ → Bool
is_dash byte = byte == 45

-- a part of a kind that begins with a byte and goes on with others, before what comes next
abbrev pub is_kind : Kind → ℕ → List ℕ → List ℕ → Bool
is_kind letters byte bytes rest = is_ascii_alphabetic byte && runs is_word_byte bytes rest
is_kind number byte bytes rest = is_ascii_digit byte && runs is_number_byte bytes rest
is_kind quoted byte bytes rest = is_quote byte && ends_quoted bytes rest
is_kind delimiter byte bytes rest = is_delimiter byte && is_empty bytes
is_kind gap byte bytes rest = is_blank byte && is_empty bytes
is_kind note byte bytes rest = is_dash byte && (begins_with is_dash bytes && runs in_line bytes rest)

abbrev pub is_part : Kind → List ℕ → List ℕ → Bool
is_part kind [] rest = false
is_part kind (byte ∷ bytes) rest = is_kind kind byte bytes rest

-- each part begins and ends as its kind has it
abbrev pub are_parts : List Part → List ℕ → Bool
are_parts [] rest = true
are_parts (part ∷ parts) rest = is_part part.kind part.bytes (joined parts rest) && are_parts parts rest

-- ## A run of bytes

at_run : (test : ℕ → Bool) (bytes rest : List ℕ) → list_all test bytes ≡ true → (i : ℕ) → i < length bytes → test (slice_index (bytes ++ rest) i) ≡ true
at_run test [] rest all i inside = let nothing : ⊥ = omega (arith, inside) in absurd nothing
at_run test (byte ∷ bytes) rest all zero inside = (both_of (test byte) (list_all test bytes) all).0
at_run test (byte ∷ bytes) rest all (suc i) inside = at_run test bytes rest (both_of (test byte) (list_all test bytes) all).1 i (omega (arith, inside))

after_run : (test : ℕ → Bool) (bytes rest : List ℕ) → begins_with test rest ≡ false → 0 < length rest → test (slice_index (bytes ++ rest) (length bytes)) ≡ false
after_run test [] [] ends some = let nothing : ⊥ = omega (arith, some) in absurd nothing
after_run test [] (byte ∷ rest) ends some = ends
after_run test (byte ∷ bytes) rest ends some = after_run test bytes rest ends some

record Run (test : ℕ → Bool) (text : List ℕ) (at end : ℕ) : Type 0 where
  each : EachByte test text at end
  longest : (other : ℕ) → other ≤ length text → EachByte test text at other → other ≤ end

run : (test : ℕ → Bool) (text : List ℕ) (at : ℕ) (bytes rest : List ℕ) → IsRest text at (bytes ++ rest) → list_all test bytes ≡ true → begins_with test rest ≡ false → Run test text at (at + length bytes)
run test text at bytes rest is all ends = record {
  each = λ lex_state from below.
      let i : at + (lex_state - at) ≡ lex_state = omega (arith, from) in
      let inside : lex_state - at < length bytes = omega (arith, from, below) in
      subst (λ (n : ℕ). test (slice_index text n) ≡ true) i
      (ap test (rest_byte text at (bytes ++ rest) is (lex_state - at)) ∙ at_run test bytes rest all (lex_state - at) inside);
  longest = λ other within each.
      ⊎_elim
      (λ (past : at + length bytes < other).
      let whole : length text ≡ (at + length bytes) + length rest = rest_size text (at + length bytes) rest (rest_after text at bytes rest is) in
      let some : 0 < length rest = omega (arith, past, within, whole) in
      let passes : test (slice_index text (at + length bytes)) ≡ true = each (at + length bytes) (omega arith) past in
      let fails : test (slice_index text (at + length bytes)) ≡ false = ap test (rest_byte text at (bytes ++ rest) is (length bytes)) ∙ after_run test bytes rest ends some in
      let nothing : ⊥ = cc in
      absurd nothing)
      (λ (h : other ≤ at + length bytes). h)
      (order (at + length bytes) other);
}

-- ## Which row fits

at_dot : (start tick : Bool) (b c : ℕ) → token Symbol ≡ first_row start tick 46 b c
unfolding first_row
at_dot true tick b c = refl
at_dot false tick b c = refl

module _ (start tick : Bool) (a b c : ℕ) where
  letter_row : is_ascii_alphabetic a ≡ true → token Word ≡ first_row start tick a b c
  unfolding first_row
  letter_row is = grind (arith, nat_tests)

  digit_row : is_ascii_digit a ≡ true → token Number ≡ first_row start tick a b c
  unfolding first_row
  digit_row is = grind (arith, nat_tests)

  dot_row : (a == 46) ≡ true → token Symbol ≡ first_row start tick a b c
  dot_row is = let same : 46 ≡ a = grind (arith, nat_tests) in subst (λ (n : ℕ). token Symbol ≡ first_row start tick n b c) same (at_dot start tick b c)

  colon_row : is_in_range 58 61 a ≡ true → token Symbol ≡ first_row start tick a b c
  unfolding first_row
  colon_row is = grind (arith, nat_tests)

  parenthesis_row : is_in_range 40 41 a ≡ true → token Symbol ≡ first_row start tick a b c
  unfolding first_row
  parenthesis_row is = grind (arith, nat_tests)

  delimiter_row : is_delimiter a ≡ true → token Symbol ≡ first_row start tick a b c
  delimiter_row is = ⊎_elim parenthesis_row (λ other. ⊎_elim dot_row colon_row (either_of (a == 46) (is_in_range 58 61 a) other)) (either_of (is_in_range 40 41 a) (a == 46 || is_in_range 58 61 a) is)

  quote_row : is_quote a ≡ true → token Str ≡ first_row start tick a b c
  unfolding first_row
  quote_row is = grind (arith, nat_tests)

  gap_row : is_blank a ≡ true → blank ≡ first_row start tick a b c
  unfolding first_row
  gap_row is = grind (arith, nat_tests)

  note_row : is_dash a ≡ true → is_dash b ≡ true → line_comment ≡ first_row start tick a b c
  unfolding first_row
  note_row first second = grind (arith, nat_tests)

letter_byte : (byte : ℕ) → is_ascii_alphabetic byte ≡ true → is_word_byte byte ≡ true
letter_byte byte is = grind (arith, nat_tests)

digit_byte : (byte : ℕ) → is_ascii_digit byte ≡ true → is_number_byte byte ≡ true
digit_byte byte is = grind (arith, nat_tests)

dash_byte : (byte : ℕ) → is_dash byte ≡ true → in_line byte ≡ true
dash_byte byte is = grind (arith, nat_tests)

-- ## One part

-- the byte that a part begins with, in the text
first_byte : (text : List ℕ) (at byte : ℕ) (rest : List ℕ) → IsRest text at (byte ∷ rest) → slice_index text at ≡ byte
first_byte text at byte rest is = let same : at ≡ at + 0 = omega arith in ap (λ (n : ℕ). slice_index text n) same ∙ rest_byte text at (byte ∷ rest) is 0

-- the row that fits at a part, by its first byte
row_is : (text : List ℕ) (last : Option Token) (at byte : ℕ) (rest : List ℕ) (row : Row) → IsRest text at (byte ∷ rest) → row ≡ first_row (at == 0) (is_tick_at text last) byte (slice_index text (at + 1)) (slice_index text (at + 2)) → row ≡ row_at text last at
row_is text last at byte rest row is fits = fits ∙ ap (λ (b : ℕ). first_row (at == 0) (is_tick_at text last) b (slice_index text (at + 1)) (slice_index text (at + 2))) (sym (first_byte text at byte rest is))

some_bytes : (at byte : ℕ) (bytes : List ℕ) → at < at + length (byte ∷ bytes)
some_bytes at byte bytes = omega arith

within : (text : List ℕ) (at : ℕ) (bytes rest : List ℕ) → IsRest text at (bytes ++ rest) → at + length bytes ≤ length text
within text at bytes rest is = let whole : length text ≡ (at + length bytes) + length rest = rest_size text (at + length bytes) rest (rest_after text at bytes rest is) in omega (arith, whole)

-- a row whose lexical elements are runs of bytes that pass a test
run_right : (row : Row) (test : ℕ → Bool) (text : List ℕ) (last : Option Token) (at byte : ℕ) (bytes rest : List ℕ) →
    ((start end : ℕ) → EachByte test text start end → HasForm row text start end) → ((start end : ℕ) → HasForm row text start end → EachByte test text start end) →
    IsRest text at (byte ∷ bytes ++ rest) → row ≡ row_at text last at → test byte ≡ true → runs test bytes rest ≡ true → IsRight text last at (record { row = row; start = at; end = at + length (byte ∷ bytes) })
run_right row test text last at byte bytes rest to from is fits passes goes_on =
    let both = both_of (list_all test bytes) (not (begins_with test rest)) goes_on in
    let all : list_all test (byte ∷ bytes) ≡ true = rw passes both.0 in
    let found : Run test text at (at + length (byte ∷ bytes)) = run test text at (byte ∷ bytes) rest is all (not_false (begins_with test rest) both.1) in
    record {
      starts = refl;
      first = fits;
      longest = record {
        some = some_bytes at byte bytes;
        within = within text at (byte ∷ bytes) rest is;
        fits = to at (at + length (byte ∷ bytes)) found.each;
        longest = λ other inside form. found.longest other inside (from at other form);
      };
    }

-- a row whose lexical elements have one byte
one_right : (row : Row) (text : List ℕ) (last : Option Token) (at byte : ℕ) (rest : List ℕ) →
    ((start end : ℕ) → end ≡ start + 1 → HasForm row text start end) → ((start end : ℕ) → HasForm row text start end → end ≡ start + 1) →
    IsRest text at (byte ∷ rest) → row ≡ row_at text last at → IsRight text last at (record { row = row; start = at; end = at + length (byte ∷ []) })
one_right row text last at byte rest to from is fits =
    record {
      starts = refl;
      first = fits;
      longest = record {
        some = some_bytes at byte [];
        within = within text at (byte ∷ []) rest is;
        fits = to at (at + length (byte ∷ [])) (omega arith);
        longest = λ other inside form. let one : other ≡ at + 1 = from at other form in omega (arith, one);
      };
    }

-- ## A string

quoted_right : (text : List ℕ) (last : Option Token) (at byte : ℕ) (bytes rest : List ℕ) → IsRest text at (byte ∷ bytes ++ rest) → token Str ≡ row_at text last at → Quoted bytes rest → IsRight text last at (record { row = token Str; start = at; end = at + length (byte ∷ bytes) })
quoted_right text last at byte bytes rest is fits q =
    let after : IsRest text (at + 1) (bytes ++ rest) = rest_after text at (byte ∷ []) (bytes ++ rest) is in
    let end_is : at + 1 + q.inner + 1 ≡ at + length (byte ∷ bytes) = omega (arith, q.size) in
    record {
      starts = refl;
      first = fits;
      longest = record {
        some = some_bytes at byte bytes;
        within = within text at (byte ∷ bytes) rest is;
        fits = subst (IsDelimited 34 text at) end_is (delimited text at bytes rest after q);
        longest = λ other inside form. let least : form.close ≤ at + 1 + q.inner = before_close text at bytes rest after q form.inside in omega (arith, least, form.up_to, end_is);
      };
    }

module _ (text : List ℕ) (last : Option Token) (at : ℕ) where
  kind_right : (kind : Kind) (byte : ℕ) (bytes rest : List ℕ) → IsRest text at (byte ∷ bytes ++ rest) → is_kind kind byte bytes rest ≡ true → IsRight text last at (lexical_element_of at (record { kind = kind; bytes = byte ∷ bytes }))
  kind_right letters byte bytes rest is fits =
      let both = both_of (is_ascii_alphabetic byte) (runs is_word_byte bytes rest) fits in
      run_right (token Word) is_word_byte text last at byte bytes rest (λ start end each. each) (λ start end each. each) is (row_is text last at byte (bytes ++ rest) (token Word) is (letter_row _ _ byte _ _ both.0)) (letter_byte byte both.0) both.1
  kind_right number byte bytes rest is fits =
      let both = both_of (is_ascii_digit byte) (runs is_number_byte bytes rest) fits in
      run_right (token Number) is_number_byte text last at byte bytes rest (λ start end each. each) (λ start end each. each) is (row_is text last at byte (bytes ++ rest) (token Number) is (digit_row _ _ byte _ _ both.0)) (digit_byte byte both.0) both.1
  kind_right quoted byte bytes rest is fits =
      let both = both_of (is_quote byte) (ends_quoted bytes rest) fits in
      quoted_right text last at byte bytes rest is (row_is text last at byte (bytes ++ rest) (token Str) is (quote_row _ _ byte _ _ both.0)) (quoted_of bytes rest both.1)
  kind_right delimiter byte [] rest is fits =
      let both = both_of (is_delimiter byte) true fits in
      one_right (token Symbol) text last at byte rest (λ start end one. one) (λ start end one. one) is (row_is text last at byte rest (token Symbol) is (delimiter_row _ _ byte _ _ both.0))
  kind_right delimiter byte (other ∷ bytes) rest is fits = let nothing : ⊥ = false_both (is_delimiter byte) fits in absurd nothing
  kind_right gap byte [] rest is fits =
      let both = both_of (is_blank byte) true fits in
      one_right blank text last at byte rest (λ start end one. one) (λ start end one. one) is (row_is text last at byte rest blank is (gap_row _ _ byte _ _ both.0))
  kind_right gap byte (other ∷ bytes) rest is fits = let nothing : ⊥ = false_both (is_blank byte) fits in absurd nothing
  kind_right note byte bytes rest is fits =
      let both = both_of (is_dash byte) (begins_with is_dash bytes && runs in_line bytes rest) fits in
      let more = both_of (begins_with is_dash bytes) (runs in_line bytes rest) both.1 in
      run_right line_comment in_line text last at byte bytes rest (λ start end each. each) (λ start end each. each) is (row_is text last at byte (bytes ++ rest) line_comment is (note_row _ _ byte _ _ both.0 (second_dash byte bytes rest is more.0))) (dash_byte byte both.0) more.1 where
        second_dash : (byte : ℕ) (bytes rest : List ℕ) → IsRest text at (byte ∷ bytes ++ rest) → begins_with is_dash bytes ≡ true → is_dash (slice_index text (at + 1)) ≡ true
        second_dash byte [] rest is begins = let nothing : ⊥ = cc in absurd nothing
        second_dash byte (next ∷ bytes) rest is begins = ap is_dash (rest_byte text at (byte ∷ next ∷ bytes ++ rest) is 1) ∙ begins

-- ## All parts

part_right : (text : List ℕ) (last : Option Token) (at : ℕ) (part : Part) (rest : List ℕ) → IsRest text at (part.bytes ++ rest) → is_part part.kind part.bytes rest ≡ true → IsRight text last at (lexical_element_of at part)
part_right text last at part rest is fits = by_bytes part.kind part.bytes is fits where
  by_bytes : (kind : Kind) (bytes : List ℕ) → IsRest text at (bytes ++ rest) → is_part kind bytes rest ≡ true → IsRight text last at (lexical_element_of at (record { kind = kind; bytes = bytes }))
  by_bytes kind [] is fits = let nothing : ⊥ = cc in absurd nothing
  by_bytes kind (byte ∷ bytes) is fits = kind_right text last at kind byte bytes rest is fits

-- the place after parts
abbrev pub lex_state_from : LexState → List Part → LexState
lex_state_from lex_state [] = lex_state
lex_state_from lex_state (part ∷ parts) = lex_state_from (lex_state_after lex_state (lexical_element_of lex_state.at part)) parts

pub parts_lead : (text : List ℕ) (lex_state : LexState) (parts : List Part) (rest : List ℕ) → IsRest text lex_state.at (joined parts rest) → are_parts parts rest ≡ true → Leads text lex_state (lexical_elements_from lex_state.at parts) (lex_state_from lex_state parts)
parts_lead text lex_state [] rest is fits = refl
parts_lead text lex_state (part ∷ parts) rest is fits =
    let both = both_of (is_part part.kind part.bytes (joined parts rest)) (are_parts parts rest) fits in
    (part_right text lex_state.last lex_state.at part (joined parts rest) is both.0, parts_lead text (lex_state_after lex_state (lexical_element_of lex_state.at part)) parts rest (rest_after text lex_state.at part.bytes (joined parts rest) is) both.1)
