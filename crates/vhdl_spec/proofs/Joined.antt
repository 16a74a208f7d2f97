-- The lexical elements of a cut, joined, are the text.
use Rattle.std.proofs.Common.{◌≡◌, ℕ, ◌<◌, ◌≤◌, List, [], ◌∷◌, ◌++◌, drop, sym, ◌∙◌, ap, arith, append_assoc}
use Rattle.std.proofs.lemmas.List.Folds.{drop_split}
use Rattle.std.proofs.Math.Seq.{drop-length}
use Rattle.std.proofs.lemmas.List.{append-nil}
use Rattle.std.specs.List.{flat_map}
use Rattle.vhdl_spec.specs.Tokens.{LexicalElement, LexState, IsRight, Leads, lex_state_after, text_start, IsCut, bytes_of}

-- the bytes of a lexical element, and the bytes after it
one_lexical_element : (text : List ℕ) (lex_state : LexState) (lexical_element : LexicalElement) → IsRight text lex_state.last lex_state.at lexical_element → bytes_of text lexical_element ++ drop lexical_element.end text ≡ drop lex_state.at text
one_lexical_element text lex_state lexical_element right =
    let starts : lexical_element.start ≡ lex_state.at = right.starts in
    let some : lex_state.at < lexical_element.end = right.longest.some in
    let ordered : lexical_element.start ≤ lexical_element.end = omega arith in
    sym (drop_split text lexical_element.start lexical_element.end ordered) ∙ ap (λ (n : ℕ). drop n text) starts

-- the bytes of the lexical elements, and those after them
joined_from : (text : List ℕ) (lex_state : LexState) (lexical_elements : List LexicalElement) (end : LexState) → Leads text lex_state lexical_elements end → flat_map (bytes_of text) lexical_elements ++ drop end.at text ≡ drop lex_state.at text
joined_from text lex_state [] end leads = ap (λ (p : LexState). drop p.at text) (sym leads)
joined_from text lex_state (lexical_element ∷ lexical_elements) end leads =
    append_assoc (bytes_of text lexical_element) (flat_map (bytes_of text) lexical_elements) (drop end.at text) ∙ ap (λ (rest : List ℕ). bytes_of text lexical_element ++ rest) (joined_from text (lex_state_after lex_state lexical_element) lexical_elements end leads.1) ∙ one_lexical_element text lex_state lexical_element leads.0

pub joined : (text : List ℕ) (lexical_elements : List LexicalElement) → IsCut text lexical_elements → flat_map (bytes_of text) lexical_elements ≡ text
joined text lexical_elements cut =
    let end_is : drop cut.end.at text ≡ [] = ap (λ (n : ℕ). drop n text) cut.whole ∙ drop-length text in
    let whole = joined_from text text_start lexical_elements cut.end cut.leads in
    sym (append-nil (flat_map (bytes_of text) lexical_elements)) ∙ ap (λ (rest : List ℕ). flat_map (bytes_of text) lexical_elements ++ rest) (sym end_is) ∙ whole
