-- The comments of a cut are in the text.
use Rattle.std.proofs.Common.{◌≡◌, ℕ, zero, suc, ◌<◌, ◌≤◌, List, [], ◌∷◌, ◌++◌, length, sym, subst, arith}
use Rattle.std.specs.Prelude.{slice_index_or}
use Rattle.base.specs.declared.lexical.Span.{Span}
use Rattle.base.specs.declared.lexical.Tokens.{Tokens}
use Rattle.vhdl_spec.specs.Tokens.{Row, byte_order_mark, blank, line_comment, block_comment, tool_directive, token, LexicalElement, LexState, Leads, comment_of, comments_of, lex_state_after, text_start}
use Rattle.vhdl_spec.specs.Units.{AreTokensOf}

abbrev pub comment_at : List Span → ℕ → Span
comment_at comments at = slice_index_or comments at (record { start = 0; end = 0 })

abbrev AreSpans : ℕ → List Span → Type 0
AreSpans size comments = (at : ℕ) → at < length comments → ((comment_at comments at).start ≤ (comment_at comments at).end) × ((comment_at comments at).end ≤ size)

span_more : (size : ℕ) (first : Span) (rest : List Span) → (first.start ≤ first.end) × (first.end ≤ size) → AreSpans size rest → AreSpans size (first ∷ rest)
span_more size first rest lies later zero within = lies
span_more size first rest lies later (suc at) within = later at (omega arith)

span_row : (size : ℕ) (row : Row) (start end : ℕ) (rest : List Span) → start ≤ end → end ≤ size → AreSpans size rest → AreSpans size (comment_of row start end ++ rest)
span_row size byte_order_mark start end rest some within later = later
span_row size blank start end rest some within later = later
span_row size line_comment start end rest some within later = span_more size (record { start = start; end = end }) rest (some, within) later
span_row size block_comment start end rest some within later = later
span_row size tool_directive start end rest some within later = later
span_row size (token kind) start end rest some within later = later

span_from : (text : List ℕ) (lex_state : LexState) (lexical_elements : List LexicalElement) (end : LexState) → Leads text lex_state lexical_elements end → AreSpans (length text) (comments_of lexical_elements)
span_from text lex_state [] end leads = λ at within. absurd (omega arith)
span_from text lex_state (lexical_element ∷ lexical_elements) end leads =
    let starts : lexical_element.start ≡ lex_state.at = leads.0.starts in
    let some : lex_state.at < lexical_element.end = leads.0.longest.some in
    span_row (length text) lexical_element.row lexical_element.start lexical_element.end (comments_of lexical_elements) (omega arith) leads.0.longest.within (span_from text (lex_state_after lex_state lexical_element) lexical_elements end leads.1)

comments_lie : (text : List ℕ) (tokens : Tokens) → AreTokensOf text tokens → AreSpans (length text) tokens.comments
comments_lie text tokens are = subst (AreSpans (length text)) (sym are.2.comments) (span_from text text_start are.0 are.1.end are.1.leads)

-- the comment at an index of a list of them
pub comment_lies : (text : List ℕ) (tokens : Tokens) (comments : List Span) (at : ℕ) → AreTokensOf text tokens → comments ≡ tokens.comments → at < length comments → ((comment_at comments at).start ≤ (comment_at comments at).end) × ((comment_at comments at).end ≤ length text)
comment_lies text tokens comments at are same within = subst (AreSpans (length text)) (sym same) (comments_lie text tokens are) at within
