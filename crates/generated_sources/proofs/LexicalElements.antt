-- The cut of a text by its parts, with what its tokens are.
use Rattle.std.proofs.Common.{◌≡◌, ℕ, ◌+◌, true, List, [], ◌∷◌, ◌++◌, length, map, slice_index, refl, ap, subst, ◌∙◌, arith}
use Rattle.std.specs.Prelude.{slice_range}
use Rattle.base.specs.declared.design.Role.{Role}
use Rattle.base.specs.declared.design.Role.TheVariants.{Other}
use Rattle.base.specs.declared.lexical.Token.{Token}
use Rattle.vhdl_spec.specs.Tokens.{LexState, IsCut, lex_state_after, text_start, tokens_of}
use Rattle.vhdl_spec.specs.Units.{role_of, roles_of, name_by_kind, symbol_role, word_role}
use Rattle.vhdl_spec.specs.Words.{lower_case}
use Rattle.generated_sources.proofs.Parts.{Kind, letters, number, quoted, delimiter, gap, note, Part, joined, end_of, lexical_element_of, lexical_elements_from, is_part, are_parts, lex_state_from, parts_lead}
use Rattle.generated_sources.proofs.ByteTests.{both_of}
use Rattle.generated_sources.proofs.Rests.{IsRest, rest_start, rest_after, rest_byte, rest_range, rest_size}

-- ## The cut

rest_from : (text : List ℕ) (lex_state : LexState) (parts : List Part) (rest : List ℕ) → IsRest text lex_state.at (joined parts rest) → IsRest text (lex_state_from lex_state parts).at rest
rest_from text lex_state [] rest is = is
rest_from text lex_state (part ∷ parts) rest is = rest_from text (lex_state_after lex_state (lexical_element_of lex_state.at part)) parts rest (rest_after text lex_state.at part.bytes (joined parts rest) is)

pub rest_of : (text : List ℕ) (parts : List Part) → text ≡ joined parts [] → IsRest text 0 (joined parts [])
rest_of text parts is = subst (IsRest text 0) is (rest_start text)

pub parts_cut : (text : List ℕ) (parts : List Part) → text ≡ joined parts [] → are_parts parts [] ≡ true → IsCut text (lexical_elements_from 0 parts)
parts_cut text parts is fits = record {
  end = lex_state_from text_start parts;
  leads = parts_lead text text_start parts [] (rest_of text parts is) fits;
  whole = let size : length text ≡ (lex_state_from text_start parts).at + length {A = ℕ} [] = rest_size text (lex_state_from text_start parts).at [] (rest_from text text_start parts [] (rest_of text parts is)) in omega (arith, size);
}

-- ## Roles and names of tokens

abbrev pub part_roles : Kind → List ℕ → List Role
part_roles letters bytes = word_role (lower_case bytes) ∷ []
part_roles number bytes = Other ∷ []
part_roles quoted bytes = Other ∷ []
part_roles delimiter bytes = symbol_role (slice_index bytes 0) ∷ []
part_roles gap bytes = []
part_roles note bytes = []

abbrev pub roles_in : List Part → List Role
roles_in [] = []
roles_in (part ∷ parts) = part_roles part.kind part.bytes ++ roles_in parts

abbrev pub name_in : List ℕ → Token → List ℕ
name_in text token = name_by_kind text token token.kind

abbrev pub part_names : Kind → List ℕ → List (List ℕ)
part_names letters bytes = lower_case bytes ∷ []
part_names number bytes = lower_case bytes ∷ []
part_names quoted bytes = lower_case bytes ∷ []
part_names delimiter bytes = lower_case bytes ∷ []
part_names gap bytes = []
part_names note bytes = []

abbrev pub names_in : List Part → List (List ℕ)
names_in [] = []
names_in (part ∷ parts) = part_names part.kind part.bytes ++ names_in parts

-- what is read of the token at a part
token_role : (text : List ℕ) (at : ℕ) (part : Part) (rest : List ℕ) → IsRest text at (part.bytes ++ rest) → is_part part.kind part.bytes rest ≡ true → roles_of text (tokens_of (lexical_element_of at part ∷ [])) ≡ part_roles part.kind part.bytes
token_role text at part rest is fits = by_kind part.kind part.bytes is fits where
  same_range : (bytes : List ℕ) → IsRest text at (bytes ++ rest) → slice_range text at (at + length bytes) ≡ bytes
  same_range bytes is = rest_range text at bytes rest is

  by_kind : (kind : Kind) (bytes : List ℕ) → IsRest text at (bytes ++ rest) → is_part kind bytes rest ≡ true → roles_of text (tokens_of (lexical_element_of at (record { kind = kind; bytes = bytes }) ∷ [])) ≡ part_roles kind bytes
  by_kind letters bytes is fits = ap (λ (word : List ℕ). word_role (lower_case word) ∷ []) (same_range bytes is)
  by_kind number bytes is fits = refl
  by_kind quoted bytes is fits = refl
  by_kind delimiter [] is fits = let nothing : ⊥ = cc in absurd nothing
  by_kind delimiter (byte ∷ bytes) is fits = let same : at ≡ at + 0 = omega arith in ap (λ (b : ℕ). symbol_role b ∷ []) (ap (λ (n : ℕ). slice_index text n) same ∙ rest_byte text at (byte ∷ bytes ++ rest) is 0)
  by_kind gap bytes is fits = refl
  by_kind note bytes is fits = refl

token_name : (text : List ℕ) (at : ℕ) (part : Part) (rest : List ℕ) → IsRest text at (part.bytes ++ rest) → map (name_in text) (tokens_of (lexical_element_of at part ∷ [])) ≡ part_names part.kind part.bytes
token_name text at part rest is = by_kind part.kind part.bytes is where
  by_kind : (kind : Kind) (bytes : List ℕ) → IsRest text at (bytes ++ rest) → map (name_in text) (tokens_of (lexical_element_of at (record { kind = kind; bytes = bytes }) ∷ [])) ≡ part_names kind bytes
  by_kind letters bytes is = ap (λ (word : List ℕ). lower_case word ∷ []) (rest_range text at bytes rest is)
  by_kind number bytes is = ap (λ (word : List ℕ). lower_case word ∷ []) (rest_range text at bytes rest is)
  by_kind quoted bytes is = ap (λ (word : List ℕ). lower_case word ∷ []) (rest_range text at bytes rest is)
  by_kind delimiter bytes is = ap (λ (word : List ℕ). lower_case word ∷ []) (rest_range text at bytes rest is)
  by_kind gap bytes is = refl
  by_kind note bytes is = refl

-- a map over the tokens of parts, by that over the first part's
map_more : {A : Type 0} (f : Token → A) (at : ℕ) (part : Part) (parts : List Part) → map f (tokens_of (lexical_elements_from at (part ∷ parts))) ≡ map f (tokens_of (lexical_element_of at part ∷ [])) ++ map f (tokens_of (lexical_elements_from (end_of at part) parts))
map_more f at part parts = by_kind part.kind part.bytes where
  by_kind : (kind : Kind) (bytes : List ℕ) → map f (tokens_of (lexical_elements_from at (record { kind = kind; bytes = bytes } ∷ parts))) ≡ map f (tokens_of (lexical_element_of at (record { kind = kind; bytes = bytes }) ∷ [])) ++ map f (tokens_of (lexical_elements_from (at + length bytes) parts))
  by_kind letters bytes = refl
  by_kind number bytes = refl
  by_kind quoted bytes = refl
  by_kind delimiter bytes = refl
  by_kind gap bytes = refl
  by_kind note bytes = refl

pub roles_are : (text : List ℕ) (at : ℕ) (parts : List Part) (rest : List ℕ) → IsRest text at (joined parts rest) → are_parts parts rest ≡ true → roles_of text (tokens_of (lexical_elements_from at parts)) ≡ roles_in parts
roles_are text at [] rest is fits = refl
roles_are text at (part ∷ parts) rest is fits =
    let both = both_of (is_part part.kind part.bytes (joined parts rest)) (are_parts parts rest) fits in
    map_more (role_of text) at part parts
    ∙ ap (λ (first : List Role). first ++ roles_of text (tokens_of (lexical_elements_from (end_of at part) parts))) (token_role text at part (joined parts rest) is both.0)
    ∙ ap (λ (more : List Role). part_roles part.kind part.bytes ++ more) (roles_are text (end_of at part) parts rest (rest_after text at part.bytes (joined parts rest) is) both.1)

pub names_are : (text : List ℕ) (at : ℕ) (parts : List Part) (rest : List ℕ) → IsRest text at (joined parts rest) → map (name_in text) (tokens_of (lexical_elements_from at parts)) ≡ names_in parts
names_are text at [] rest is = refl
names_are text at (part ∷ parts) rest is =
    map_more (name_in text) at part parts
    ∙ ap (λ (first : List (List ℕ)). first ++ map (name_in text) (tokens_of (lexical_elements_from (end_of at part) parts))) (token_name text at part (joined parts rest) is)
    ∙ ap (λ (more : List (List ℕ)). part_names part.kind part.bytes ++ more) (names_are text (end_of at part) parts rest (rest_after text at part.bytes (joined parts rest) is))
