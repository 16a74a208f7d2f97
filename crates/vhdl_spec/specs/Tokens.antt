-- The token cut of a text (IEEE Std 1076-2008, clause 15, in this project's profile).
--
-- At each offset of the text the first row of a table that fits there says what form the next lexical element has, and the
-- longest lexical element of that form is right there. The cut of a text is the list of lexical elements, each right at its offset, from
-- its start to its end. Where a string, an extended identifier or a comment opens that has no end, there is a fault.
-- An offset is a number of bytes from the start, and a lexical element has the bytes from its start up to its end.
use Rattle.std.specs.Prelude.{◌≡◌, ◌≢◌, ℕ, ◌+◌, ◌<◌, ◌≤◌, Bool, true, false, not, ◌&&◌, ◌||◌, ◌==◌, if◌then◌else◌, nat_le, List, [], ◌∷◌, length, slice_index, slice_range, bytes_eq, codes, Option, Some, None, Result, Ok, Err}
use Rattle.std.specs.List.{flat_map}
use Rattle.std.specs.Char.{is_ascii_digit, is_ascii_alphabetic}
use Rattle.base.specs.declared.lexical.TokenKind.{TokenKind}
use Rattle.base.specs.declared.lexical.TokenKind.TheVariants.{Word, Extended, Number, Str, Char, Tick, Symbol, High}
use Rattle.base.specs.declared.lexical.Token.{Token}
use Rattle.base.specs.declared.lexical.Span.{Span}
use Rattle.base.specs.declared.lexical.Tokens.{Tokens}
use Rattle.base.specs.declared.lexical.LexFault.{LexFault}
use Rattle.base.specs.declared.lexical.LexFault.TheVariants.{UnclosedString, UnclosedExtended, UnclosedComment}
use Rattle.base.specs.declared.memory.OrMemory.{OrMemory}
use Rattle.base.specs.declared.memory.OrMemory.TheVariants.{NoMemory, Fault}
use Rattle.vhdl_spec.specs.Words.{is_reserved, lower_case}

-- ## Bytes

-- `"`
abbrev pub quote : ℕ
quote = 34

-- `'`
abbrev pub apostrophe : ℕ
apostrophe = 39

-- `*`
abbrev pub star : ℕ
star = 42

-- `-`
abbrev pub dash : ℕ
dash = 45

-- `/`
abbrev pub slash : ℕ
slash = 47

-- `\`
abbrev pub backslash : ℕ
backslash = 92

-- `_`
abbrev pub underscore : ℕ
underscore = 95

-- the grave accent, which begins a tool directive (clause 15.11)
abbrev pub grave : ℕ
grave = 96

-- line feed, vertical tab, form feed, carriage return
abbrev pub is_line_end : ℕ → Bool
is_line_end byte = nat_le 10 byte && nat_le byte 13

-- a tab, a line end or a space
abbrev pub is_blank : ℕ → Bool
is_blank byte = nat_le 9 byte && nat_le byte 13 || byte == 32

-- a letter, a digit or `_`; letters are those of ASCII
abbrev pub is_word_byte : ℕ → Bool
is_word_byte byte = is_ascii_alphabetic byte || is_ascii_digit byte || byte == underscore

-- a letter, a digit, `_`, `.` or `#`
abbrev pub is_number_byte : ℕ → Bool
is_number_byte byte = is_word_byte byte || byte == 46 || byte == 35

-- ## The rows of the table

-- five kinds of gaps, and the kinds of tokens
pub data Row : Type 0 where
  byte_order_mark : Row
  blank : Row
  line_comment : Row
  block_comment : Row
  tool_directive : Row
  token : TokenKind → Row

-- a name that isn't reserved, `all`, or `subtype`, which after a tick names an attribute that is a type delimiter (clause 16.2)
abbrev pub word_takes_tick : List ℕ → Bool
word_takes_tick word =
    not (is_reserved word) || bytes_eq (lower_case word) (codes "all") || bytes_eq (lower_case word) (codes "subtype")

-- Whether an apostrophe after this token is a tick: after some words, an extended identifier, a closing bracket, and a
-- literal that may be a name.
abbrev pub takes_tick : List ℕ → Token → TokenKind → Bool
takes_tick text last Word = word_takes_tick (slice_range text last.start last.end)
takes_tick text last Extended = true
takes_tick text last Number = false
takes_tick text last Str = true
takes_tick text last Char = true
takes_tick text last Tick = false
takes_tick text last Symbol = slice_index text last.start == 41 || slice_index text last.start == 93
takes_tick text last High = false

-- the token before an offset, or none
abbrev pub is_tick_at : List ℕ → Option Token → Bool
is_tick_at text None = false
is_tick_at text (Some last) = takes_tick text last last.kind

-- The first row that fits: at the text's start or not, where an apostrophe is a tick or not, and where these are
-- the next three bytes, 0 for those past the end.
unfoldable pub first_row : Bool → Bool → ℕ → ℕ → ℕ → Row
first_row at_start tick first second third =
    if at_start && first == 0xEF && second == 0xBB && third == 0xBF then byte_order_mark
    else (if is_blank first then blank
    else (if first == dash && second == dash then line_comment
    else (if first == slash && second == star then block_comment
    else (if first == grave then tool_directive
    else (if is_ascii_alphabetic first then token Word
    else (if is_ascii_digit first then token Number
    else (if first == quote then token Str
    else (if first == backslash then token Extended
    else (if first == apostrophe && third == apostrophe && not tick then token Char
    else (if first == apostrophe then token Tick
    else (if nat_le 128 first then token High
    else token Symbol)))))))))))

-- the first row that fits at an offset, given the token before it
abbrev pub row_at : List ℕ → Option Token → ℕ → Row
row_at text last at =
    first_row (at == 0) (is_tick_at text last) (slice_index text at) (slice_index text (at + 1)) (slice_index text (at + 2))

-- ## The forms of lexical elements

-- each byte from one offset up to another passes a test
abbrev pub EachByte : (ℕ → Bool) → List ℕ → ℕ → ℕ → Type 0
EachByte test text start end = (at : ℕ) → start ≤ at → at < end → test (slice_index text at) ≡ true

-- the two bytes that end a block comment are at an offset
abbrev pub EndsComment : List ℕ → ℕ → Type 0
EndsComment text at = (slice_index text at ≡ star) × (slice_index text (at + 1) ≡ slash)

-- `/*` up to and with the next `*/`, so comments don't nest (clause 15.9)
pub record IsBlockComment (text : List ℕ) (start end : ℕ) : Type 0 where
  pub close : ℕ
  pub closes : EndsComment text close
  pub after : start + 2 ≤ close
  pub next : (at : ℕ) → start + 2 ≤ at → at < close → EndsComment text at → ⊥
  pub up_to : end ≡ close + 2

-- on one line, bytes other than the delimiter, or pairs of it, from one offset up to another
pub data Inside (delimiter : ℕ) (text : List ℕ) (start : ℕ) : ℕ → Type 0 where
  nothing : {end : ℕ} → end ≡ start → Inside delimiter text start end
  byte : {at end : ℕ} → Inside delimiter text start at → slice_index text at ≢ delimiter → is_line_end (slice_index text at) ≡ false → end ≡ at + 1 → Inside delimiter text start end
  pair : {at end : ℕ} → Inside delimiter text start at → slice_index text at ≡ delimiter → slice_index text (at + 1) ≡ delimiter → end ≡ at + 2 → Inside delimiter text start end

-- between two delimiters, on one line: a string literal or an extended identifier (clauses 15.7 and 15.4.3)
pub record IsDelimited (delimiter : ℕ) (text : List ℕ) (start end : ℕ) : Type 0 where
  pub close : ℕ
  pub inside : Inside delimiter text (start + 1) close
  pub closes : slice_index text close ≡ delimiter
  pub up_to : end ≡ close + 1

-- the bytes from start up to end have the form of the row, which fits at start
abbrev pub HasForm : Row → List ℕ → ℕ → ℕ → Type 0
HasForm byte_order_mark text start end = end ≡ start + 3
HasForm blank text start end = end ≡ start + 1
HasForm line_comment text start end = EachByte (λ byte. not (is_line_end byte)) text start end
HasForm block_comment text start end = IsBlockComment text start end
HasForm tool_directive text start end = EachByte (λ byte. not (is_line_end byte)) text start end
HasForm (token Word) text start end = EachByte is_word_byte text start end
HasForm (token Extended) text start end = IsDelimited backslash text start end
HasForm (token Number) text start end = EachByte is_number_byte text start end
HasForm (token Str) text start end = IsDelimited quote text start end
HasForm (token Char) text start end = end ≡ start + 3
HasForm (token Tick) text start end = end ≡ start + 1
HasForm (token Symbol) text start end = end ≡ start + 1
HasForm (token High) text start end = end ≡ start + 1

-- ## The cut

-- a token or a gap: the row of the table that it has the form of, and the offsets of its first byte and past its last
pub record LexicalElement : Type 0 where
  pub row : Row
  pub start : ℕ
  pub end : ℕ

-- a lexical element has the form of its row, and no longer one that begins there has
pub record IsLongest (row : Row) (text : List ℕ) (start end : ℕ) : Type 0 where
  pub some : start < end
  pub within : end ≤ length text
  pub fits : HasForm row text start end
  pub longest : (other : ℕ) → other ≤ length text → HasForm row text start other → other ≤ end

-- the lexical element is right at the offset, given the token before it
pub record IsRight (text : List ℕ) (last : Option Token) (at : ℕ) (lexical_element : LexicalElement) : Type 0 where
  pub starts : lexical_element.start ≡ at
  pub first : lexical_element.row ≡ row_at text last at
  pub longest : IsLongest lexical_element.row text at lexical_element.end

-- the token of a lexical element, or an empty list if the element isn't a token
abbrev pub token_of : Row → ℕ → ℕ → List Token
token_of (token kind) start end = record { kind = kind; start = start; end = end } ∷ []
token_of _ start end = []

-- the bytes of a lexical element, where it is a line comment
abbrev pub comment_of : Row → ℕ → ℕ → List Span
comment_of line_comment start end = record { start = start; end = end } ∷ []
comment_of _ start end = []

-- the token before the offset after a lexical element
abbrev pub last_after : Option Token → Row → ℕ → ℕ → Option Token
last_after last (token kind) start end = Some (record { kind = kind; start = start; end = end })
last_after last _ start end = last

-- an offset of a text, and the token before it
pub record LexState : Type 0 where
  pub last : Option Token
  pub at : ℕ

-- offset 0, with no token before it
abbrev pub text_start : LexState
text_start = record { last = None; at = 0 }

-- the offset after a lexical element, and the token before that offset
abbrev pub lex_state_after : LexState → LexicalElement → LexState
lex_state_after lex_state lexical_element = record { last = last_after lex_state.last lexical_element.row lexical_element.start lexical_element.end; at = lexical_element.end }

-- the lexical elements follow one another from one offset up to another, each right at its offset
abbrev pub Leads : List ℕ → LexState → List LexicalElement → LexState → Type 0
Leads text lex_state [] end = lex_state ≡ end
Leads text lex_state (lexical_element ∷ lexical_elements) end = IsRight text lex_state.last lex_state.at lexical_element × Leads text (lex_state_after lex_state lexical_element) lexical_elements end

-- The lexical elements are the cut of the text: each is right at its offset, from the start to the end. In `x <= std_logic'('1')
-- & '(' & "a--b";` there are 13 tokens: the first apostrophe is a tick, since the token before it is a name, and no
-- comment begins in a string.
pub record IsCut (text : List ℕ) (lexical_elements : List LexicalElement) : Type 0 where
  pub end : LexState
  pub leads : Leads text text_start lexical_elements end
  pub whole : end.at ≡ length text

-- after lexical elements that are right something opens at an offset that has no end
pub record Opens (row : Row) (text : List ℕ) (at : ℕ) : Type 0 where
  pub lexical_elements : List LexicalElement
  pub lex_state : LexState
  pub leads : Leads text text_start lexical_elements lex_state
  pub stands : lex_state.at ≡ at
  pub within : at < length text
  pub first : row_at text lex_state.last at ≡ row
  pub no_end : (end : ℕ) → end ≤ length text → HasForm row text at end → ⊥

-- After lexical elements that are right a string, an extended identifier or a comment opens that has no end. In a text that ends
-- in `"abc` it is the string, at its quote.
abbrev pub HasFault : List ℕ → LexFault → Type 0
HasFault text (UnclosedString at) = Opens (token Str) text at
HasFault text (UnclosedExtended at) = Opens (token Extended) text at
HasFault text (UnclosedComment at) = Opens block_comment text at

-- the tokens and the line comments of lexical elements, in order
abbrev pub tokens_of : List LexicalElement → List Token
tokens_of lexical_elements = flat_map (λ lexical_element. token_of lexical_element.row lexical_element.start lexical_element.end) lexical_elements

-- the line comments of lexical elements, in order
abbrev pub comments_of : List LexicalElement → List Span
comments_of lexical_elements = flat_map (λ lexical_element. comment_of lexical_element.row lexical_element.start lexical_element.end) lexical_elements

-- the tokens and comments are those of the lexical elements
pub record AreOf (lexical_elements : List LexicalElement) (tokens : Tokens) : Type 0 where
  pub list : tokens.list ≡ tokens_of lexical_elements
  pub comments : tokens.comments ≡ comments_of lexical_elements

-- What scanning gives: tokens of the cut, a fault of the text, or out of memory.
abbrev pub Scans : List ℕ → Result Tokens (OrMemory LexFault) → Type 0
Scans text (Ok tokens) = (lexical_elements : List LexicalElement) × IsCut text lexical_elements × AreOf lexical_elements tokens
Scans text (Err NoMemory) = Unit {0}
Scans text (Err (Fault fault)) = HasFault text fault

-- the bytes of a lexical element of a text
abbrev pub bytes_of : List ℕ → LexicalElement → List ℕ
bytes_of text lexical_element = slice_range text lexical_element.start lexical_element.end
