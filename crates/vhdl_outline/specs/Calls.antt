-- The testbench facts in the tokens of a design unit and the comments of a file, as VUnit documents them. A test bench has
-- the generic `runner_cfg`, a test case is a call `run("its name")`, and a comment asks for one simulation of all cases.
-- Each is at the index of a token, and is recognised by the tokens around it.
use Rattle.std.specs.Prelude.{ℕ, ◌+◌, ◌-◌, Bool, true, false, ◌&&◌, ◌||◌, ◌==◌, if◌then◌else◌, List, [], ◌∷◌, length, map, drop, slice_range, count_by, codes, Option, is_some, find}
use Rattle.std.specs.List.{list_any, range_with_len, starts_with}
use Rattle.std.specs.Option.{option_map_or}
use Rattle.std.specs.Str.{bytes_eq}
use Rattle.base_outcomes.specs.declared.bench.TestCase.{TestCase}
use Rattle.base.specs.declared.design.Role.{Role}
use Rattle.base.specs.declared.design.Role.TheVariants.{Generic}
use Rattle.base.specs.declared.design.Unit.{Unit as DesignUnit}
use Rattle.base.specs.declared.lexical.Span.{Span}
use Rattle.base.specs.declared.lexical.Token.{Token}
use Rattle.base.specs.declared.lexical.TokenKind.{TokenKind}
use Rattle.base.specs.declared.lexical.TokenKind.TheVariants.{Word, Extended, Number, Str, Char, Tick, Symbol, High}
use Rattle.vhdl_spec.specs.Tokens.{quote}
use Rattle.vhdl_spec.specs.Units.{is_opening, is_closing, name_of, name_token, role_at, roles_of, token_at}
use Rattle.vhdl_spec.specs.References.{is_name, indices}

-- ## Words and indices

-- a basic identifier, in letters of any case (15.4.2); an extended one has its backslashes and is another (15.4.3)
abbrev pub is_word_at : List ℕ → List ℕ → List Token → ℕ → Bool
is_word_at word text tokens at = is_name (role_at (roles_of text tokens) at) && bytes_eq (name_of text tokens at) word

-- the token numbers from one up to another
abbrev pub tokens_in : ℕ → ℕ → List ℕ
tokens_in start end = range_with_len start (end - start)

-- the first token from one up to another that passes a test
abbrev pub first_index : (ℕ → Bool) → ℕ → ℕ → Option ℕ
first_index test start end = find test (tokens_in start end)

-- ## The generic clause of an entity (3.2.2, 6.5.6.2)

-- `generic`
abbrev pub is_generic_word : Role → Bool
is_generic_word Generic = true
is_generic_word _ = false

-- `generic` `(`
abbrev pub opens_generics : List Role → ℕ → Bool
opens_generics roles at = is_generic_word (role_at roles at) && is_opening (role_at roles (at + 1))

-- from a `(` up to and with a token as many parentheses are opened as closed
abbrev pub is_level_after : List Role → ℕ → ℕ → Bool
is_level_after roles opening at = count_by is_opening (slice_range roles opening (at + 1)) == count_by is_closing (slice_range roles opening (at + 1))

-- the `)` that matches a `(`, before the end of the unit
abbrev pub closing_of : List Role → ℕ → ℕ → Option ℕ
closing_of roles opening end = first_index (is_level_after roles opening) opening end

-- `runner_cfg` is between a `(` and a `)`
abbrev pub names_runner : List ℕ → List Token → ℕ → ℕ → Bool
names_runner text tokens opening closing = is_some (first_index (is_word_at (codes "runner_cfg") text tokens) opening closing)

-- `runner_cfg` is between a `(` and the `)` that matches it, if one does
abbrev pub lists_runner : List ℕ → List Token → ℕ → ℕ → Bool
lists_runner text tokens opening end = option_map_or (λ closing. names_runner text tokens opening closing) (closing_of (roles_of text tokens) opening end) false

-- the first `generic` `(` of a unit has `runner_cfg` before its `)`
abbrev pub has_runner : List ℕ → List Token → DesignUnit → Bool
has_runner text tokens unit = option_map_or (λ at. lists_runner text tokens (at + 1) unit.last) (first_index (opens_generics (roles_of text tokens)) unit.first unit.last) false

-- ## Test cases

-- a string literal
abbrev pub is_string : TokenKind → Bool
is_string Word = false
is_string Extended = false
is_string Number = false
is_string Str = true
is_string Char = false
is_string Tick = false
is_string Symbol = false
is_string High = false

-- `run` `(` STRING `)`
abbrev pub is_run_call : List ℕ → List Token → ℕ → Bool
is_run_call text tokens at = is_word_at (codes "run") text tokens at && is_opening (role_at (roles_of text tokens) (at + 1)) && is_string (token_at tokens (at + 2)).kind && is_closing (role_at (roles_of text tokens) (at + 3))

-- the characters that the bytes between the quotes of a string literal mean: two quotes are one (15.7)
unfoldable pub unquoted : List ℕ → List ℕ
unquoted [] = []
unquoted (byte ∷ []) = byte ∷ []
unquoted (byte ∷ next ∷ bytes) = if (byte == quote) && (next == quote) then quote ∷ unquoted bytes else byte ∷ unquoted (next ∷ bytes)

-- the case that a string names: where the bytes between the quotes begin, and how many they are
abbrev pub string_case : ℕ → List ℕ → Token → TestCase
string_case file text token = record { name = unquoted (slice_range text (token.start + 1) (token.end - 1)); file = file; at = token.start + 1; length = token.end - token.start - 2 }

-- the strings of the calls between two tokens, in order
abbrev pub run_strings : List ℕ → List Token → ℕ → ℕ → List Token
run_strings text tokens start end = map (λ at. token_at tokens (at + 2)) (indices (is_run_call text tokens) start end)

-- the cases of a unit of a file, in order
abbrev pub called_cases : ℕ → List ℕ → List Token → DesignUnit → List TestCase
called_cases file text tokens unit = map (string_case file text) (run_strings text tokens unit.first unit.last)

-- the case of a bench that calls none, at the entity's name
abbrev pub token_case : ℕ → Token → TestCase
token_case file token = record { name = codes "all"; file = file; at = token.start; length = token.end - token.start }

-- the one case of a bench that calls none, at the token that names its entity
abbrev pub whole_case : ℕ → List Token → DesignUnit → TestCase
whole_case file tokens unit = token_case file (token_at tokens (name_token unit.kind unit.first))

-- the cases that a bench calls, or this one where it calls none
abbrev pub cases_or : TestCase → List TestCase → List TestCase
cases_or whole [] = whole ∷ []
cases_or whole (first ∷ others) = first ∷ others

-- ## The comment that asks for one simulation

-- a space or a tab
abbrev pub is_pad : ℕ → Bool
is_pad byte = byte == 32 || byte == 9

-- what comes after the leading spaces and tabs
abbrev pub after_pads : List ℕ → List ℕ
after_pads [] = []
after_pads (byte ∷ bytes) = if is_pad byte then after_pads bytes else byte ∷ bytes

-- bytes begin with a word, and what comes after it and after spaces and tabs passes a test
abbrev pub has_word_first : List ℕ → (List ℕ → Bool) → List ℕ → Bool
has_word_first word test bytes = starts_with (λ a b. a == b) bytes word && test (after_pads (drop (length word) bytes))

-- no byte is left
abbrev pub is_nothing : List ℕ → Bool
is_nothing bytes = length bytes == 0

-- `--`, `vunit:` and `run_all_in_same_sim`, with spaces or tabs after each, and nothing else
abbrev pub is_same_sim : List ℕ → Bool
is_same_sim comment = has_word_first (codes "--") (has_word_first (codes "vunit:") (has_word_first (codes "run_all_in_same_sim") is_nothing)) comment

-- a line comment of a file asks for it
abbrev pub asks_same_sim : List ℕ → List Span → Bool
asks_same_sim text comments = list_any (λ span. is_same_sim (slice_range text span.start span.end)) comments
