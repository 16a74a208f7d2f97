-- Each text has a cut or a fault.
use Rattle.std.proofs.Common.{◌≡◌, ◌≢◌, ℕ, zero, suc, ◌+◌, ◌<◌, ◌≤◌, ◌⊎◌, ◌&&◌, ◌==◌, nat_le, cond, Bool, true, false, not, List, [], ◌∷◌, length, slice_index, refl, sym, ◌∙◌, ap, subst, inl, inr, ⊎_elim, arith, Option}
use Rattle.std.specs.Char.{is_ascii_digit, is_ascii_alphabetic}
use Rattle.std.proofs.str.Laws.{order}
use Rattle.std.proofs.lemmas.List.{get_or_past}
use Rattle.std.proofs.lemmas.Bool.Decides.{nat_tests}
use Rattle.base.specs.declared.lexical.Token.{Token}
use Rattle.base.specs.declared.lexical.TokenKind.TheVariants.{Word, Extended, Number, Str, Char, Tick, Symbol, High}
use Rattle.base.specs.declared.lexical.LexFault.{LexFault}
use Rattle.base.specs.declared.lexical.LexFault.TheVariants.{UnclosedString, UnclosedExtended, UnclosedComment}
use Rattle.vhdl_spec.specs.Tokens.{Row, byte_order_mark, blank, line_comment, block_comment, tool_directive, token, quote, apostrophe, dash, grave, backslash, star, slash, is_line_end, is_blank, EachByte, IsBlockComment, Inside, nothing, byte, pair, IsDelimited, HasForm, is_word_byte, is_number_byte, first_row, row_at, IsLongest, IsRight, LexicalElement, LexState, Leads, lex_state_after, text_start, IsCut, Opens, HasFault}
use Rattle.vhdl_spec.proofs.Search.{Largest, NoneUpTo, largest}
use Rattle.vhdl_spec.proofs.Forms.{decide_form}

-- what the first and the third byte are where a row fits, as far as its form needs it
abbrev Begins : ℕ → ℕ → Row → Type 0
Begins first third byte_order_mark = third ≡ 0xBF
Begins first third line_comment = first ≡ dash
Begins first third tool_directive = first ≡ grave
Begins first third (token Word) = is_ascii_alphabetic first ≡ true
Begins first third (token Number) = is_ascii_digit first ≡ true
Begins first third (token Char) = third ≡ apostrophe
Begins first third _ = Unit {0}

choose : (P : Row → Type 0) (test : Bool) {yes no : Row} → (test ≡ true → P yes) → (test ≡ false → P no) → P (cond test yes no)
choose P true if_true if_false = if_true refl
choose P false if_true if_false = if_false refl

begins : (at_start tick : Bool) (first second third : ℕ) → Begins first third (first_row at_start tick first second third)
unfolding first_row
begins at_start tick first second third =
    let P = Begins first third in
    choose P (at_start && first == 0xEF && second == 0xBB && third == 0xBF) (λ h. grind (arith, nat_tests)) (λ _.
    choose P (is_blank first) (λ _. tt) (λ _.
    choose P (first == dash && second == dash) (λ h. grind (arith, nat_tests)) (λ _.
    choose P (first == slash && second == star) (λ _. tt) (λ _.
    choose P (first == grave) (λ h. grind (arith, nat_tests)) (λ _.
    choose P (is_ascii_alphabetic first) (λ h. h) (λ _.
    choose P (is_ascii_digit first) (λ h. h) (λ _.
    choose P (first == quote) (λ _. tt) (λ _.
    choose P (first == backslash) (λ _. tt) (λ _.
    choose P (first == apostrophe && third == apostrophe && not tick) (λ h. grind (arith, nat_tests)) (λ _.
    choose P (first == apostrophe) (λ _. tt) (λ _.
    choose P (nat_le 128 first) (λ _. tt) (λ _. tt))))))))))))

-- a form whose lexical element may have no end
abbrev IsOpening : Row → Type 0
IsOpening block_comment = Unit {0}
IsOpening (token Str) = Unit {0}
IsOpening (token Extended) = Unit {0}
IsOpening _ = ⊥

-- where a row fits, it has a lexical element, or its form is one that may have no end
data Has (text : List ℕ) (row : Row) (at : ℕ) : Type 0 where
  lexical_element_to : (end : ℕ) → at < end → end ≤ length text → HasForm row text at end → Has text row at
  may_open : IsOpening row → ((end : ℕ) → HasForm row text at end → at < end) → Has text row at

-- a byte that isn't 0 is in the text
pub in_text : (text : List ℕ) (at : ℕ) → slice_index text at ≢ 0 → at < length text
in_text text at some = ⊎_elim (λ h. h) (λ h. absurd (some (get_or_past text at 0 h))) (order at (length text))

one_byte : (test : ℕ → Bool) (text : List ℕ) (at : ℕ) → test (slice_index text at) ≡ true → EachByte test text at (at + 1)
one_byte test text at holds lex_state from below = let is : at ≡ lex_state = omega arith in subst (λ (n : ℕ). test (slice_index text n) ≡ true) is holds

word_of_letter : (b : ℕ) → is_ascii_alphabetic b ≡ true → is_word_byte b ≡ true
word_of_letter b h = grind (arith, nat_tests)

number_of_digit : (b : ℕ) → is_ascii_digit b ≡ true → is_number_byte b ≡ true
number_of_digit b h = grind (arith, nat_tests)

pub start_inside : {delimiter : ℕ} {text : List ℕ} {start end : ℕ} → Inside delimiter text start end → start ≤ end
start_inside (nothing is) = omega arith
start_inside (byte {at = at} inside other in_line up_to) = let before = start_inside inside in omega arith
start_inside (pair {at = at} inside first second up_to) = let before = start_inside inside in omega arith

pub delimited_some : (delimiter : ℕ) (text : List ℕ) (at end : ℕ) → IsDelimited delimiter text at end → at < end
delimited_some delimiter text at end delimited = let before : at + 1 ≤ delimited.close = start_inside delimited.inside in omega (arith, delimited.up_to)

block_some : (text : List ℕ) (at end : ℕ) → IsBlockComment text at end → at < end
block_some text at end block = omega (arith, block.up_to, block.after)

third_in : (text : List ℕ) (at delimiter : ℕ) → delimiter ≢ 0 → slice_index text (at + 2) ≡ delimiter → at + 3 ≤ length text
third_in text at delimiter some is = let inner : at + 2 < length text = in_text text (at + 2) (λ zero_there. some (sym is ∙ zero_there)) in omega arith

has : (text : List ℕ) (row : Row) (at : ℕ) → at < length text → Begins (slice_index text at) (slice_index text (at + 2)) row → Has text row at
has text byte_order_mark at within fits = lexical_element_to (at + 3) (omega arith) (third_in text at 0xBF (λ e. omega arith) fits) refl
has text blank at within fits = lexical_element_to (at + 1) (omega arith) (omega arith) refl
has text line_comment at within fits = lexical_element_to (at + 1) (omega arith) (omega arith) (one_byte (λ byte. not (is_line_end byte)) text at (ap (λ (b : ℕ). not (is_line_end b)) fits))
has text block_comment at within fits = may_open tt (block_some text at)
has text tool_directive at within fits = lexical_element_to (at + 1) (omega arith) (omega arith) (one_byte (λ byte. not (is_line_end byte)) text at (ap (λ (b : ℕ). not (is_line_end b)) fits))
has text (token Word) at within fits = lexical_element_to (at + 1) (omega arith) (omega arith) (one_byte is_word_byte text at (word_of_letter (slice_index text at) fits))
has text (token Extended) at within fits = may_open tt (delimited_some backslash text at)
has text (token Number) at within fits = lexical_element_to (at + 1) (omega arith) (omega arith) (one_byte is_number_byte text at (number_of_digit (slice_index text at) fits))
has text (token Str) at within fits = may_open tt (delimited_some quote text at)
has text (token Char) at within fits = lexical_element_to (at + 3) (omega arith) (third_in text at 39 (λ e. omega arith) fits) refl
has text (token Tick) at within fits = lexical_element_to (at + 1) (omega arith) (omega arith) refl
has text (token Symbol) at within fits = lexical_element_to (at + 1) (omega arith) (omega arith) refl
has text (token High) at within fits = lexical_element_to (at + 1) (omega arith) (omega arith) refl

-- the longest lexical element, or none
data Next (text : List ℕ) (row : Row) (at : ℕ) : Type 0 where
  longest_to : (end : ℕ) → IsLongest row text at end → Next text row at
  open_here : IsOpening row → ((end : ℕ) → end ≤ length text → HasForm row text at end → ⊥) → Next text row at

next_of : (text : List ℕ) (row : Row) (at : ℕ) → Has text row at → Largest (HasForm row text at) (length text) ⊎ NoneUpTo (HasForm row text at) (length text) → Next text row at
next_of text row at (lexical_element_to end some within fits) (inl found) = longest_to found.is (record { some = let reaches : end ≤ found.is = found.largest end within fits in omega arith; within = found.within; fits = found.holds; longest = found.largest })
next_of text row at (lexical_element_to end some within fits) (inr none) = absurd (none end within fits)
next_of text row at (may_open opening some) (inl found) = longest_to found.is (record { some = some found.is found.holds; within = found.within; fits = found.holds; longest = found.largest })
next_of text row at (may_open opening some) (inr none) = open_here opening none

next : (text : List ℕ) (last : Option Token) (at : ℕ) → at < length text → Next text (row_at text last at) at
next text last at within =
    let row = row_at text last at in
    next_of text row at (has text row at within (begins _ _ (slice_index text at) (slice_index text (at + 1)) (slice_index text (at + 2)))) (largest (HasForm row text at) (decide_form row text at) (length text))

-- something that opens at an offset and has no end
record Hole (text : List ℕ) (lex_state : LexState) : Type 0 where
  within : lex_state.at < length text
  opening : IsOpening (row_at text lex_state.last lex_state.at)
  no_end : (end : ℕ) → end ≤ length text → HasForm (row_at text lex_state.last lex_state.at) text lex_state.at end → ⊥

-- right lexical elements from an offset to the text's end, or to a hole
record Ends (text : List ℕ) (lex_state : LexState) : Type 0 where
  lexical_elements : List LexicalElement
  end : LexState
  leads : Leads text lex_state lexical_elements end
  stop : (end.at ≡ length text) ⊎ Hole text end

-- the lexical elements from an offset within the text on, given those from any later place
ends_step : (text : List ℕ) (bound : ℕ) → ((lex_state : LexState) → length text ≤ lex_state.at + bound → lex_state.at ≤ length text → Ends text lex_state) → (lex_state : LexState) → length text ≤ lex_state.at + suc bound → lex_state.at < length text → Next text (row_at text lex_state.last lex_state.at) lex_state.at → Ends text lex_state
ends_step text bound later lex_state bounded some (longest_to end longest) =
    let lexical_element : LexicalElement = record { row = row_at text lex_state.last lex_state.at; start = lex_state.at; end = end } in
    let right : IsRight text lex_state.last lex_state.at lexical_element = record { starts = refl; first = refl; longest = longest } in
    let rest = later (lex_state_after lex_state lexical_element) (omega (arith, longest.some)) longest.within in
    record { lexical_elements = lexical_element ∷ rest.lexical_elements; end = rest.end; leads = (right, rest.leads); stop = rest.stop }
ends_step text bound later lex_state bounded some (open_here opening none) =
    record { lexical_elements = []; end = lex_state; leads = refl; stop = inr (record { within = some; opening = opening; no_end = none }) }

ends_from : (text : List ℕ) (bound : ℕ) (lex_state : LexState) → length text ≤ lex_state.at + bound → lex_state.at ≤ length text → Ends text lex_state
ends_from text zero lex_state bounded within = record { lexical_elements = []; end = lex_state; leads = refl; stop = inl (omega arith) }
ends_from text (suc bound) lex_state bounded within =
    ⊎_elim
    (λ some. ends_step text bound (ends_from text bound) lex_state bounded some (next text lex_state.last lex_state.at some))
    (λ all. record { lexical_elements = []; end = lex_state; leads = refl; stop = inl (omega arith) })
    (order lex_state.at (length text))

-- the fault of an opening
fault_at : (text : List ℕ) (row : Row) (at : ℕ) → IsOpening row → Opens row text at → (fault : LexFault) × HasFault text fault
fault_at text block_comment at opening opens = (UnclosedComment at, opens)
fault_at text (token Str) at opening opens = (UnclosedString at, opens)
fault_at text (token Extended) at opening opens = (UnclosedExtended at, opens)
fault_at text _ at opening opens = absurd opening

pub cut_or_fault : (text : List ℕ) → ((lexical_elements : List LexicalElement) × IsCut text lexical_elements) ⊎ ((fault : LexFault) × HasFault text fault)
cut_or_fault text =
    let ends = ends_from text (length text) text_start (omega arith) (omega arith) in
    ⊎_elim
    (λ (whole : ends.end.at ≡ length text). inl (ends.lexical_elements, record { end = ends.end; leads = ends.leads; whole = whole }))
    (λ (hole : Hole text ends.end). inr (fault_at text (row_at text ends.end.last ends.end.at) ends.end.at hole.opening (record { lexical_elements = ends.lexical_elements; lex_state = ends.end; leads = ends.leads; stands = refl; within = hole.within; first = refl; no_end = hole.no_end })))
    ends.stop
