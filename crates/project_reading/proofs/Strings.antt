-- The strings that an architecture calls lie one after the other in its text, so their total length is at most that of
-- the text.
use Rattle.std.proofs.Common.{◌≡◌, ℕ, zero, suc, ◌+◌, ◌-◌, ◌<◌, ◌≤◌, Bool, not, ◌&&◌, ◌==◌, cond, List, [], ◌∷◌, ◌++◌, length, map, take, drop, inl, inr, refl, sym, ap, subst, ◌∙◌, arith}
use Rattle.std.specs.Prelude.{slice_index_or, slice_range, sum_by, filter}
use Rattle.std.specs.List.{range_with_len}
use Rattle.std.proofs.lemmas.Bool.{cases_Bool, cond-true, cond-false}
use Rattle.std.proofs.lemmas.List.Filters.{sum_by-filter_both}
use Rattle.std.proofs.lemmas.List.Sums.{sum_by-cons}
use Rattle.base_outcomes.specs.declared.bench.TestCase.{TestCase}
use Rattle.base.specs.declared.design.Unit.{Unit as DesignUnit}
use Rattle.base.specs.declared.lexical.Token.{Token}
use Rattle.base.specs.declared.lexical.Tokens.{Tokens}
use Rattle.vhdl_spec.specs.Tokens.{quote, Row, byte_order_mark, blank, line_comment, block_comment, tool_directive, token, LexicalElement, LexState, Leads, lex_state_after, text_start, token_of, tokens_of}
use Rattle.vhdl_spec.specs.Units.{token_at, AreTokensOf}
use Rattle.vhdl_spec.specs.References.{indices}
use Rattle.vhdl_outline.specs.Calls.{unquoted, string_case, is_run_call, run_strings, called_cases}

-- two quotes become one, and nothing grows
unquoted_length : (bytes : List ℕ) → length (unquoted bytes) ≤ length bytes
unfolding unquoted
unquoted_length [] = omega arith
unquoted_length (byte ∷ []) = omega arith
unquoted_length (byte ∷ next ∷ bytes) =
    let both : Bool = (byte == quote) && (next == quote) in
    let short : length (unquoted bytes) ≤ length bytes = unquoted_length bytes in
    let long : length (unquoted (next ∷ bytes)) ≤ length (next ∷ bytes) = unquoted_length (next ∷ bytes) in
    elim (cases_Bool both) [
      | inl t ↦ subst (λ (l : List ℕ). length l ≤ suc (suc (length bytes))) (sym (cond-true both (quote ∷ unquoted bytes) (byte ∷ unquoted (next ∷ bytes)) t)) (omega (arith, short))
      | inr f ↦ subst (λ (l : List ℕ). length l ≤ suc (suc (length bytes))) (sym (cond-false both (quote ∷ unquoted bytes) (byte ∷ unquoted (next ∷ bytes)) f)) (omega (arith, long))
    ]

take_most : (n : ℕ) (xs : List ℕ) → length (take n xs) ≤ n
take_most zero xs = omega arith
take_most (suc n) [] = omega arith
take_most (suc n) (x ∷ xs) = let rest = take_most n xs in omega (arith, rest)

-- the length of a part of a text is at most its end less its start
part_length : (text : List ℕ) (from to : ℕ) → length (slice_range text from to) ≤ to - from
part_length text from to = take_most (to - from) (drop from text)

-- ## Tokens follow one another

-- each token begins at or after the end of the one before, and all end within `size` bytes
abbrev Ordered : ℕ → ℕ → List Token → Type 0
Ordered at size [] = at ≤ size
Ordered at size (first ∷ rest) = (at ≤ first.start) × (first.start ≤ first.end) × Ordered first.end size rest

ordered_later : (at later size : ℕ) (tokens : List Token) → at ≤ later → Ordered later size tokens → Ordered at size tokens
ordered_later at later size [] le is = omega (arith, le, is)
ordered_later at later size (first ∷ rest) le is = (omega (arith, le, is.0), is.1, is.2)

ordered_row : (row : Row) (start end size : ℕ) (rest : List Token) → start ≤ end → Ordered end size rest → Ordered start size (token_of row start end ++ rest)
ordered_row byte_order_mark start end size rest le later = ordered_later start end size rest le later
ordered_row blank start end size rest le later = ordered_later start end size rest le later
ordered_row line_comment start end size rest le later = ordered_later start end size rest le later
ordered_row block_comment start end size rest le later = ordered_later start end size rest le later
ordered_row tool_directive start end size rest le later = ordered_later start end size rest le later
ordered_row (token kind) start end size rest le later = (omega arith, le, later)

ordered_from : (text : List ℕ) (lex_state : LexState) (lexical_elements : List LexicalElement) (end : LexState) → Leads text lex_state lexical_elements end → end.at ≤ length text → Ordered lex_state.at (length text) (tokens_of lexical_elements)
ordered_from text lex_state [] end leads within = subst (λ (p : LexState). p.at ≤ length text) (sym leads) within
ordered_from text lex_state (lexical_element ∷ lexical_elements) end leads within =
    let starts : lexical_element.start ≡ lex_state.at = leads.0.starts in
    let some : lex_state.at ≤ lexical_element.end = let lt = leads.0.longest.some in omega (arith, lt) in
    subst (λ (at : ℕ). Ordered at (length text) (token_of lexical_element.row lexical_element.start lexical_element.end ++ tokens_of lexical_elements)) starts
    (ordered_row lexical_element.row lexical_element.start lexical_element.end (length text) (tokens_of lexical_elements) (subst (λ (at : ℕ). at ≤ lexical_element.end) (sym starts) some)
    (ordered_from text (lex_state_after lex_state lexical_element) lexical_elements end leads.1 within))

ordered : (text : List ℕ) (tokens : Tokens) → AreTokensOf text tokens → Ordered 0 (length text) tokens.list
ordered text tokens are = subst (Ordered 0 (length text)) (sym are.2.list) (ordered_from text text_start are.0 are.1.end are.1.leads (omega (arith, are.1.whole)))

-- where the token of a number begins, and behind the last one the end of the text
abbrev lex_state_of : ℕ → List Token → ℕ → ℕ
lex_state_of size [] at = size
lex_state_of size (first ∷ rest) zero = first.start
lex_state_of size (first ∷ rest) (suc at) = lex_state_of size rest at

within_size : (at size : ℕ) (tokens : List Token) (k : ℕ) → Ordered at size tokens → (at ≤ lex_state_of size tokens k) × (lex_state_of size tokens k ≤ size)
within_size at size [] k is = (is, omega arith)
within_size at size (first ∷ rest) zero is = let later = within_size first.end size rest 0 is.2 in (is.0, omega (arith, is.1, later.0, later.1))
within_size at size (first ∷ rest) (suc k) is = let later = within_size first.end size rest k is.2 in (omega (arith, is.0, is.1, later.0), later.1)

abbrev token_length : List Token → ℕ → ℕ
token_length tokens k = (token_at tokens k).end - (token_at tokens k).start

-- a token ends before the next one begins
one_token : (at size : ℕ) (tokens : List Token) (k : ℕ) → Ordered at size tokens → lex_state_of size tokens k + token_length tokens k ≤ lex_state_of size tokens (suc k)
one_token at size [] k is = omega arith
one_token at size (first ∷ rest) zero is = let later = within_size first.end size rest 0 is.2 in omega (arith, is.1, later.0)
one_token at size (first ∷ rest) (suc k) is = one_token first.end size rest k is.2

-- so the total length of consecutive tokens is at most the distance from the first to the token after the last
all_tokens : (at size : ℕ) (tokens : List Token) (start count : ℕ) → Ordered at size tokens →
    lex_state_of size tokens (start + 2) + sum_by (λ k. token_length tokens (k + 2)) (range_with_len start count) ≤ lex_state_of size tokens (start + count + 2)
all_tokens at size tokens start zero is =
    let same : lex_state_of size tokens (start + 2) ≡ lex_state_of size tokens (start + 0 + 2) = ap (lex_state_of size tokens) (let n : start + 2 ≡ start + 0 + 2 = omega arith in n) in
    omega (arith, same)
all_tokens at size tokens start (suc count) is =
    let whole = sum_by-cons (λ (k : ℕ). token_length tokens (k + 2)) start (range_with_len (start + 1) count) in
    let one : lex_state_of size tokens (start + 2) + token_length tokens (start + 2) ≤ lex_state_of size tokens (suc (start + 2)) = one_token at size tokens (start + 2) is in
    let next : lex_state_of size tokens (start + 1 + 2) + sum_by (λ k. token_length tokens (k + 2)) (range_with_len (start + 1) count) ≤ lex_state_of size tokens (start + 1 + count + 2) = all_tokens at size tokens (start + 1) count is in
    let here : lex_state_of size tokens (suc (start + 2)) ≡ lex_state_of size tokens (start + 1 + 2) = ap (lex_state_of size tokens) (let n : suc (start + 2) ≡ start + 1 + 2 = omega arith in n) in
    let there : lex_state_of size tokens (start + 1 + count + 2) ≡ lex_state_of size tokens (start + suc count + 2) = ap (lex_state_of size tokens) (let n : start + 1 + count + 2 ≡ start + suc count + 2 = omega arith in n) in
    omega (arith, whole, one, next, here, there)

-- the sum over the elements that pass a test is at most the sum over all
pub sum_passing : {X : Type 0} (test : X → Bool) (f : X → ℕ) (xs : List X) → sum_by f (filter test xs) ≤ sum_by f xs
sum_passing test f xs = let both = sum_by-filter_both test (λ x. not (test x)) (λ x. refl) f xs in omega (arith, both)

-- the name of a case is at most as long as its string literal
case_length : (file : ℕ) (text : List ℕ) (here : Token) → length (string_case file text here).name ≤ here.end - here.start
case_length file text here =
    let part = part_length text (here.start + 1) (here.end - 1) in
    let short = unquoted_length (slice_range text (here.start + 1) (here.end - 1)) in
    omega (arith, part, short)

cases_length : (file : ℕ) (text : List ℕ) (tokens : List Token) (at : List ℕ) →
    sum_by (λ test. length test.name) (map (string_case file text) (map (λ k. token_at tokens (k + 2)) at)) ≤ sum_by (λ k. token_length tokens (k + 2)) at
cases_length file text tokens [] = omega arith
cases_length file text tokens (k ∷ at) =
    let here : Token = token_at tokens (k + 2) in
    let one = case_length file text here in
    let rest = cases_length file text tokens at in
    let whole = sum_by-cons (λ (test : TestCase). length test.name) (string_case file text here) (map (string_case file text) (map (λ k. token_at tokens (k + 2)) at)) in
    let wide = sum_by-cons (λ (k : ℕ). token_length tokens (k + 2)) k at in
    omega (arith, one, rest, whole, wide)

-- the cases that a unit calls are together no longer than the text
pub called_length : (file : ℕ) (text : List ℕ) (tokens : Tokens) (unit : DesignUnit) → AreTokensOf text tokens → sum_by (λ test. length test.name) (called_cases file text tokens.list unit) ≤ length text
called_length file text tokens unit are =
    let is : Ordered 0 (length text) tokens.list = ordered text tokens are in
    let count : ℕ = unit.last - unit.first in
    let f : ℕ → ℕ = λ k. token_length tokens.list (k + 2) in
    let cases = cases_length file text tokens.list (indices (is_run_call text tokens.list) unit.first unit.last) in
    let passing = sum_passing (is_run_call text tokens.list) f (range_with_len unit.first count) in
    let all = all_tokens 0 (length text) tokens.list unit.first count is in
    let end = within_size 0 (length text) tokens.list (unit.first + count + 2) is in
    omega (arith, cases, passing, all, end.1)
