-- The tokens and comments of the parts of a file, with their indices.
use Rattle.std.proofs.Common.{◌≡◌, ℕ, ◌+◌, Bool, true, false, List, [], ◌∷◌, ◌++◌, length, refl, ap, ◌∙◌, arith}
use Rattle.std.specs.Prelude.{if◌then◌else◌}
use Rattle.std.proofs.lemmas.Grind.{flat_map-append}
use Rattle.base.specs.declared.lexical.Span.{Span}
use Rattle.base.specs.declared.lexical.Token.{Token}
use Rattle.vhdl_spec.specs.Tokens.{LexicalElement, token_of, comment_of, tokens_of, comments_of}
use Rattle.generated_sources.proofs.PackageParts.{use_parts, line_parts, note_parts, file_parts}
use Rattle.generated_sources.proofs.Parts.{Part, end_of, lexical_element_of, lexical_elements_from}
use Rattle.generated_sources.specs.PackageScans.{use_tokens, use_end, lines_tokens, lines_end, file_tokens, file_comments}

-- token by token the same kinds and indices
abbrev SameTokens : List Token → List Token → Type 0
SameTokens [] [] = Unit {0}
SameTokens [] (y ∷ ys) = ⊥
SameTokens (x ∷ xs) [] = ⊥
SameTokens (x ∷ xs) (y ∷ ys) = (x.kind ≡ y.kind) × (x.start ≡ y.start) × (x.end ≡ y.end) × SameTokens xs ys

same_tokens : (xs ys : List Token) → SameTokens xs ys → xs ≡ ys
same_tokens [] [] same = refl
same_tokens [] (y ∷ ys) same = absurd same
same_tokens (x ∷ xs) [] same = absurd same
same_tokens (x ∷ xs) (y ∷ ys) same = λ i. record { kind = same.0 i; start = same.1 i; end = same.2 i } ∷ same_tokens xs ys same.3 i

abbrev end_from : ℕ → List Part → ℕ
end_from at [] = at
end_from at (part ∷ parts) = end_from (at + length part.bytes) parts

use_indices : (digits : List ℕ) → tokens_of (lexical_elements_from 0 (use_parts digits)) ≡ use_tokens (length digits)
unfolding use_parts
use_indices digits = same_tokens _ _ (refl, omega arith, omega arith, (refl, omega arith, omega arith, (refl, omega arith, omega arith, (refl, omega arith, omega arith, (refl, omega arith, omega arith, (refl, omega arith, omega arith, (refl, omega arith, omega arith, (refl, omega arith, omega arith, (refl, omega arith, omega arith, (refl, omega arith, omega arith, tt))))))))))

line_indices : (at : ℕ) (digits : List ℕ) → tokens_of (lexical_elements_from at (line_parts digits)) ≡ lines_tokens at (length digits)
unfolding line_parts
line_indices at digits = same_tokens _ _ (refl, omega arith, omega arith, (refl, omega arith, omega arith, (refl, omega arith, omega arith, (refl, omega arith, omega arith, (refl, omega arith, omega arith, (refl, omega arith, omega arith, (refl, omega arith, omega arith, (refl, omega arith, omega arith, (refl, omega arith, omega arith, (refl, omega arith, omega arith, (refl, omega arith, omega arith, (refl, omega arith, omega arith, (refl, omega arith, omega arith, (refl, omega arith, omega arith, (refl, omega arith, omega arith, tt)))))))))))))))

-- ## Indices

use_ends : (digits : List ℕ) → end_from 0 (use_parts digits) ≡ use_end (length digits)
unfolding use_parts
use_ends digits = omega arith

line_ends : (at : ℕ) (digits : List ℕ) → end_from at (line_parts digits) ≡ lines_end at (length digits)
unfolding line_parts
line_ends at digits = omega arith

lexical_elements_append : (at : ℕ) (xs ys : List Part) → lexical_elements_from at (xs ++ ys) ≡ lexical_elements_from at xs ++ lexical_elements_from (end_from at xs) ys
lexical_elements_append at [] ys = refl
lexical_elements_append at (x ∷ xs) ys = ap (λ (lexical_elements : List LexicalElement). lexical_element_of at x ∷ lexical_elements) (lexical_elements_append (end_of at x) xs ys)

tokens_append : (at : ℕ) (xs ys : List Part) → tokens_of (lexical_elements_from at (xs ++ ys)) ≡ tokens_of (lexical_elements_from at xs) ++ tokens_of (lexical_elements_from (end_from at xs) ys)
tokens_append at xs ys = ap tokens_of (lexical_elements_append at xs ys) ∙ flat_map-append (λ (lexical_element : LexicalElement). token_of lexical_element.row lexical_element.start lexical_element.end) (lexical_elements_from at xs) (lexical_elements_from (end_from at xs) ys)

comments_append : (at : ℕ) (xs ys : List Part) → comments_of (lexical_elements_from at (xs ++ ys)) ≡ comments_of (lexical_elements_from at xs) ++ comments_of (lexical_elements_from (end_from at xs) ys)
comments_append at xs ys = ap comments_of (lexical_elements_append at xs ys) ∙ flat_map-append (λ (lexical_element : LexicalElement). comment_of lexical_element.row lexical_element.start lexical_element.end) (lexical_elements_from at xs) (lexical_elements_from (end_from at xs) ys)

-- ## Comments

use_comments : (at : ℕ) (digits : List ℕ) → comments_of (lexical_elements_from at (use_parts digits)) ≡ []
unfolding use_parts
use_comments at digits = refl

line_comments : (at : ℕ) (digits : List ℕ) → comments_of (lexical_elements_from at (line_parts digits)) ≡ []
unfolding line_parts
line_comments at digits = refl

note_comments : (at : ℕ) (noted : Bool) → comments_of (lexical_elements_from at (if noted then note_parts else [])) ≡ (if noted then record { start = at; end = at + 16 } ∷ [] else [])
unfolding note_parts
note_comments at true = refl
note_comments at false = refl

note_tokens : (at : ℕ) (noted : Bool) → tokens_of (lexical_elements_from at (if noted then note_parts else [])) ≡ []
unfolding note_parts
note_tokens at true = refl
note_tokens at false = refl

-- ## The whole file

lines_and_note : (at : ℕ) (digits : List ℕ) (noted : Bool) → tokens_of (lexical_elements_from at (line_parts digits ++ (if noted then note_parts else []))) ≡ lines_tokens at (length digits)
lines_and_note at digits noted =
    tokens_append at (line_parts digits) (if noted then note_parts else [])
    ∙ ap (λ (rest : List Token). tokens_of (lexical_elements_from at (line_parts digits)) ++ rest) (note_tokens (end_from at (line_parts digits)) noted)
    ∙ ap (λ (tokens : List Token). tokens ++ []) (line_indices at digits)

note_after : (at : ℕ) (digits : List ℕ) (noted : Bool) → comments_of (lexical_elements_from at (line_parts digits ++ (if noted then note_parts else []))) ≡ (if noted then record { start = lines_end at (length digits); end = lines_end at (length digits) + 16 } ∷ [] else [])
note_after at digits noted =
    comments_append at (line_parts digits) (if noted then note_parts else [])
    ∙ ap (λ (rest : List Span). rest ++ comments_of (lexical_elements_from (end_from at (line_parts digits)) (if noted then note_parts else []))) (line_comments at digits)
    ∙ note_comments (end_from at (line_parts digits)) noted
    ∙ ap (λ (n : ℕ). if noted then record { start = n; end = n + 16 } ∷ [] else []) (line_ends at digits)

pub file_indices : (alone : Bool) (used digits : List ℕ) (noted : Bool) → tokens_of (lexical_elements_from 0 (file_parts alone used digits noted)) ≡ file_tokens alone (length used) (length digits)
file_indices true used digits noted = lines_and_note 0 digits noted
file_indices false used digits noted =
    tokens_append 0 (use_parts used) (line_parts digits ++ (if noted then note_parts else []))
    ∙ ap (λ (n : ℕ). tokens_of (lexical_elements_from 0 (use_parts used)) ++ tokens_of (lexical_elements_from n (line_parts digits ++ (if noted then note_parts else [])))) (use_ends used)
    ∙ ap (λ (rest : List Token). tokens_of (lexical_elements_from 0 (use_parts used)) ++ rest) (lines_and_note (use_end (length used)) digits noted)
    ∙ ap (λ (tokens : List Token). tokens ++ lines_tokens (use_end (length used)) (length digits)) (use_indices used)

pub file_notes : (alone : Bool) (used digits : List ℕ) (noted : Bool) → comments_of (lexical_elements_from 0 (file_parts alone used digits noted)) ≡ file_comments alone (length used) (length digits) noted
file_notes true used digits noted = note_after 0 digits noted
file_notes false used digits noted =
    comments_append 0 (use_parts used) (line_parts digits ++ (if noted then note_parts else []))
    ∙ ap (λ (first : List Span). first ++ comments_of (lexical_elements_from (end_from 0 (use_parts used)) (line_parts digits ++ (if noted then note_parts else [])))) (use_comments 0 used)
    ∙ ap (λ (n : ℕ). comments_of (lexical_elements_from n (line_parts digits ++ (if noted then note_parts else [])))) (use_ends used)
    ∙ note_after (use_end (length used)) digits noted
