-- The tokens of a cut lie in the text, and there are no more of them than bytes.
use Rattle.std.proofs.Common.{◌≡◌, ℕ, zero, suc, ◌+◌, ◌<◌, ◌≤◌, List, [], ◌∷◌, ◌++◌, length, sym, ap, subst, arith}
use Rattle.base.specs.declared.lexical.Token.{Token}
use Rattle.base.specs.declared.lexical.Tokens.{Tokens}
use Rattle.vhdl_spec.specs.Tokens.{Row, byte_order_mark, blank, line_comment, block_comment, tool_directive, token, LexicalElement, LexState, Leads, lex_state_after, text_start, token_of, tokens_of}
use Rattle.vhdl_spec.specs.Units.{token_at, AreTokensOf}

-- each token lies in a text of this length
abbrev pub Lie : ℕ → List Token → Type 0
Lie size tokens = (at : ℕ) → at < length tokens → ((token_at tokens at).start < (token_at tokens at).end) × ((token_at tokens at).end ≤ size)

lie_more : (size : ℕ) (first : Token) (rest : List Token) → (first.start < first.end) × (first.end ≤ size) → Lie size rest → Lie size (first ∷ rest)
lie_more size first rest lies later zero within = lies
lie_more size first rest lies later (suc at) within = later at (omega arith)

lie_row : (size : ℕ) (row : Row) (start end : ℕ) (rest : List Token) → start < end → end ≤ size → Lie size rest → Lie size (token_of row start end ++ rest)
lie_row size byte_order_mark start end rest some within later = later
lie_row size blank start end rest some within later = later
lie_row size line_comment start end rest some within later = later
lie_row size block_comment start end rest some within later = later
lie_row size tool_directive start end rest some within later = later
lie_row size (token kind) start end rest some within later = lie_more size (record { kind = kind; start = start; end = end }) rest (some, within) later

no_token : (size : ℕ) → Lie size []
no_token size at within = absurd (omega arith)

lie_from : (text : List ℕ) (lex_state : LexState) (lexical_elements : List LexicalElement) (end : LexState) → Leads text lex_state lexical_elements end → Lie (length text) (tokens_of lexical_elements)
lie_from text lex_state [] end leads = no_token (length text)
lie_from text lex_state (lexical_element ∷ lexical_elements) end leads =
    let starts : lexical_element.start ≡ lex_state.at = leads.0.starts in
    let some : lex_state.at < lexical_element.end = leads.0.longest.some in
    lie_row (length text) lexical_element.row lexical_element.start lexical_element.end (tokens_of lexical_elements) (omega arith) leads.0.longest.within (lie_from text (lex_state_after lex_state lexical_element) lexical_elements end leads.1)

few_row : (row : Row) (start end : ℕ) (rest : List Token) → length (token_of row start end ++ rest) ≤ suc (length rest)
few_row byte_order_mark start end rest = omega arith
few_row blank start end rest = omega arith
few_row line_comment start end rest = omega arith
few_row block_comment start end rest = omega arith
few_row tool_directive start end rest = omega arith
few_row (token kind) start end rest = omega arith

few_from : (text : List ℕ) (lex_state : LexState) (lexical_elements : List LexicalElement) (end : LexState) → Leads text lex_state lexical_elements end → lex_state.at + length (tokens_of lexical_elements) ≤ end.at
few_from text lex_state [] end leads = let same : lex_state.at ≡ end.at = ap (λ (p : LexState). p.at) leads in omega arith
few_from text lex_state (lexical_element ∷ lexical_elements) end leads =
    let some : lex_state.at < lexical_element.end = leads.0.longest.some in
    let rest = few_from text (lex_state_after lex_state lexical_element) lexical_elements end leads.1 in
    let row = few_row lexical_element.row lexical_element.start lexical_element.end (tokens_of lexical_elements) in
    omega arith

pub tokens_lie : (text : List ℕ) (tokens : Tokens) → AreTokensOf text tokens → Lie (length text) tokens.list
tokens_lie text tokens are = subst (Lie (length text)) (sym are.2.list) (lie_from text text_start are.0 are.1.end are.1.leads)

pub tokens_few : (text : List ℕ) (tokens : Tokens) → AreTokensOf text tokens → length tokens.list ≤ length text
tokens_few text tokens are =
    let few = few_from text text_start are.0 are.1.end are.1.leads in
    let same : length tokens.list ≡ length (tokens_of are.0) = ap length are.2.list in
    omega (arith, are.1.whole)
