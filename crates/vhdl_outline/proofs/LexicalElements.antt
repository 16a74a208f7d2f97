-- The strings of a cut have two quotes.
use Rattle.std.proofs.Common.{◌≡◌, ℕ, zero, suc, ◌+◌, ◌<◌, ◌≤◌, true, List, [], ◌∷◌, ◌++◌, length, sym, subst, arith}
use Rattle.base.specs.declared.lexical.Token.{Token}
use Rattle.base.specs.declared.lexical.Tokens.{Tokens}
use Rattle.base.specs.declared.lexical.TokenKind.{TokenKind}
use Rattle.base.specs.declared.lexical.TokenKind.TheVariants.{Word, Extended, Number, Str, Char, Tick, Symbol, High}
use Rattle.vhdl_spec.specs.Tokens.{Row, byte_order_mark, blank, line_comment, block_comment, tool_directive, token, HasForm, Inside, nothing, byte, pair, LexicalElement, LexState, Leads, lex_state_after, text_start, token_of, tokens_of}
use Rattle.vhdl_spec.specs.Units.{token_at, AreTokensOf}
use Rattle.vhdl_outline.specs.Calls.{is_string}

inside_on : {delimiter : ℕ} {text : List ℕ} {start end : ℕ} → Inside delimiter text start end → start ≤ end
inside_on (nothing is) = omega arith
inside_on (byte before other line is) = let on = inside_on before in omega arith
inside_on (pair before one two is) = let on = inside_on before in omega arith

-- each string has room for two quotes
abbrev pub AreLong : List Token → Type 0
AreLong tokens = (at : ℕ) → at < length tokens → is_string (token_at tokens at).kind ≡ true → (token_at tokens at).start + 2 ≤ (token_at tokens at).end

abbrev IsLong : TokenKind → ℕ → ℕ → Type 0
IsLong kind start end = is_string kind ≡ true → start + 2 ≤ end

long_form : (kind : TokenKind) (text : List ℕ) (start end : ℕ) → HasForm (token kind) text start end → IsLong kind start end
long_form Str text start end form is = let on = inside_on form.inside in let to = form.up_to in omega arith
long_form Word text start end form is = let no : ⊥ = cc in absurd no
long_form Extended text start end form is = let no : ⊥ = cc in absurd no
long_form Number text start end form is = let no : ⊥ = cc in absurd no
long_form Char text start end form is = let no : ⊥ = cc in absurd no
long_form Tick text start end form is = let no : ⊥ = cc in absurd no
long_form Symbol text start end form is = let no : ⊥ = cc in absurd no
long_form High text start end form is = let no : ⊥ = cc in absurd no

long_more : (first : Token) (rest : List Token) → IsLong first.kind first.start first.end → AreLong rest → AreLong (first ∷ rest)
long_more first rest long later zero within is = long is
long_more first rest long later (suc at) within is = later at (omega arith) is

long_row : (row : Row) (text : List ℕ) (start end : ℕ) (rest : List Token) → HasForm row text start end → AreLong rest → AreLong (token_of row start end ++ rest)
long_row byte_order_mark text start end rest form later = later
long_row blank text start end rest form later = later
long_row line_comment text start end rest form later = later
long_row block_comment text start end rest form later = later
long_row tool_directive text start end rest form later = later
long_row (token kind) text start end rest form later = long_more (record { kind = kind; start = start; end = end }) rest (long_form kind text start end form) later

long_from : (text : List ℕ) (lex_state : LexState) (lexical_elements : List LexicalElement) (end : LexState) → Leads text lex_state lexical_elements end → AreLong (tokens_of lexical_elements)
long_from text lex_state [] end leads = λ at within is. absurd (omega arith)
long_from text lex_state (lexical_element ∷ lexical_elements) end leads =
    let form : HasForm lexical_element.row text lexical_element.start lexical_element.end = subst (λ (at : ℕ). HasForm lexical_element.row text at lexical_element.end) (sym leads.0.starts) leads.0.longest.fits in
    long_row lexical_element.row text lexical_element.start lexical_element.end (tokens_of lexical_elements) form (long_from text (lex_state_after lex_state lexical_element) lexical_elements end leads.1)

pub strings_long : (text : List ℕ) (tokens : Tokens) → AreTokensOf text tokens → AreLong tokens.list
strings_long text tokens are = subst AreLong (sym are.2.list) (long_from text text_start are.0 are.1.end are.1.leads)
