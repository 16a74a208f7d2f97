-- The roles and the names of the tokens of a file.
use Rattle.std.proofs.Common.{◌≡◌, zero, suc, ℕ, ◌+◌, ◌<◌, ◌⊎◌, ⊎_elim, Bool, true, false, List, [], ◌∷◌, ◌++◌, map, refl, sym, ap, ◌∙◌, arith, append_assoc}
use Rattle.std.specs.Prelude.{codes, if◌then◌else◌, slice_index_or}
use Rattle.std.specs.Char.{is_ascii_digit, to_ascii_lowercase}
use Rattle.std.specs.List.{list_all}
use Rattle.std.proofs.lemmas.Bool.Decides.{nat_tests}
use Rattle.std.proofs.Math.ListN.{get_or-map}
use Rattle.base.specs.declared.design.Role.{Role}
use Rattle.base.specs.declared.design.Role.TheVariants.{All, Colon, Dot, End, Is, Library, Name, Other, Package, Semicolon, Use}
use Rattle.base.specs.declared.lexical.Token.{Token}
use Rattle.base.specs.declared.lexical.TokenKind.TheVariants.{High}
use Rattle.vhdl_spec.specs.Units.{name_of, word_role}
use Rattle.vhdl_spec.specs.Words.{lower_case, reserved_words}
use Rattle.generated_sources.proofs.PackageParts.{use_parts, line_parts, note_parts, file_parts}
use Rattle.generated_sources.proofs.Parts.{Part}
use Rattle.generated_sources.proofs.ByteTests.{both_of}
use Rattle.generated_sources.proofs.LexicalElements.{part_roles, roles_in, part_names, names_in, name_in}
use Rattle.generated_sources.specs.PackageScans.{AreDigits, use_roles, lines_roles, file_roles}

-- ## The role of a name

at_digit : (n : ℕ) (rest : List ℕ) → n < 10 → word_role (lower_case (112 ∷ (48 + n) ∷ rest)) ≡ Name
unfolding word_role reserved_words
at_digit zero rest small = refl
at_digit (suc zero) rest small = refl
at_digit (suc (suc zero)) rest small = refl
at_digit (suc (suc (suc zero))) rest small = refl
at_digit (suc (suc (suc (suc zero)))) rest small = refl
at_digit (suc (suc (suc (suc (suc zero))))) rest small = refl
at_digit (suc (suc (suc (suc (suc (suc zero)))))) rest small = refl
at_digit (suc (suc (suc (suc (suc (suc (suc zero))))))) rest small = refl
at_digit (suc (suc (suc (suc (suc (suc (suc (suc zero)))))))) rest small = refl
at_digit (suc (suc (suc (suc (suc (suc (suc (suc (suc zero))))))))) rest small = refl
at_digit (suc (suc (suc (suc (suc (suc (suc (suc (suc (suc n)))))))))) rest small = let nothing : ⊥ = omega (arith, small) in absurd nothing

name_role : (digits : List ℕ) → AreDigits digits → word_role (lower_case (112 ∷ digits)) ≡ Name
name_role digits are = ap (λ (bytes : List ℕ). word_role (lower_case (112 ∷ bytes))) are.begins ∙ at_digit are.first are.rest are.small

-- ## Roles

use_roles_are : (digits : List ℕ) → AreDigits digits → roles_in (use_parts digits) ≡ use_roles
unfolding use_parts word_role reserved_words
use_roles_are digits are = ap (λ (role : Role). Library ∷ Name ∷ Semicolon ∷ Use ∷ Name ∷ Dot ∷ role ∷ Dot ∷ All ∷ Semicolon ∷ []) (name_role digits are)

line_roles_are : (digits : List ℕ) → AreDigits digits → roles_in (line_parts digits) ≡ lines_roles
unfolding line_parts word_role reserved_words
line_roles_are digits are = ap (λ (role : Role). Package ∷ role ∷ Is ∷ Other ∷ Name ∷ Colon ∷ Name ∷ Colon ∷ Other ∷ Other ∷ Semicolon ∷ End ∷ Package ∷ role ∷ Semicolon ∷ []) (name_role digits are)

roles_append : (xs ys : List Part) → roles_in (xs ++ ys) ≡ roles_in xs ++ roles_in ys
roles_append [] ys = refl
roles_append (x ∷ xs) ys = ap (λ (roles : List Role). part_roles x.kind x.bytes ++ roles) (roles_append xs ys) ∙ sym (append_assoc (part_roles x.kind x.bytes) (roles_in xs) (roles_in ys))

note_roles : (noted : Bool) → roles_in (if noted then note_parts else []) ≡ []
unfolding note_parts
note_roles true = refl
note_roles false = refl

noted_roles_are : (digits : List ℕ) (noted : Bool) → AreDigits digits → roles_in (line_parts digits ++ (if noted then note_parts else [])) ≡ lines_roles
noted_roles_are digits noted are =
    roles_append (line_parts digits) (if noted then note_parts else [])
    ∙ ap (λ (roles : List Role). roles_in (line_parts digits) ++ roles) (note_roles noted)
    ∙ ap (λ (roles : List Role). roles ++ []) (line_roles_are digits are)

pub file_roles_are : (alone : Bool) (used digits : List ℕ) (noted : Bool) → AreDigits used → AreDigits digits → roles_in (file_parts alone used digits noted) ≡ file_roles alone
file_roles_are true used digits noted of_used of_own = noted_roles_are digits noted of_own
file_roles_are false used digits noted of_used of_own =
    roles_append (use_parts used) (line_parts digits ++ (if noted then note_parts else []))
    ∙ ap (λ (roles : List Role). roles_in (use_parts used) ++ roles) (noted_roles_are digits noted of_own)
    ∙ ap (λ (roles : List Role). roles ++ lines_roles) (use_roles_are used of_used)

-- ## Names

-- digits have no case
digit_case : (byte : ℕ) → is_ascii_digit byte ≡ true → to_ascii_lowercase byte ≡ byte
digit_case byte is = grind (arith, nat_tests)

same_case : (digits : List ℕ) → list_all is_ascii_digit digits ≡ true → lower_case digits ≡ digits
same_case [] all = refl
same_case (byte ∷ digits) all =
    let both = both_of (is_ascii_digit byte) (list_all is_ascii_digit digits) all in
    ap (λ (b : ℕ). b ∷ lower_case digits) (digit_case byte both.0) ∙ ap (λ (bytes : List ℕ). byte ∷ bytes) (same_case digits both.1)

names_append : (xs ys : List Part) → names_in (xs ++ ys) ≡ names_in xs ++ names_in ys
names_append [] ys = refl
names_append (x ∷ xs) ys = ap (λ (names : List (List ℕ)). part_names x.kind x.bytes ++ names) (names_append xs ys) ∙ sym (append_assoc (part_names x.kind x.bytes) (names_in xs) (names_in ys))

-- the name of a token of a text, where all of its tokens have these names
pub name_at : (text : List ℕ) (tokens : List Token) (names : List (List ℕ)) (at : ℕ) → map (name_in text) tokens ≡ names → name_of text tokens at ≡ slice_index_or names at (name_in text (record { kind = High; start = 0; end = 0 }))
name_at text tokens names at are =
    sym (get_or-map (name_in text) tokens at (record { kind = High; start = 0; end = 0 }))
    ∙ ap (λ (all : List (List ℕ)). slice_index_or all at (name_in text (record { kind = High; start = 0; end = 0 }))) are

-- the names of a file's package, of the library that it names, and of the package that it uses
unfoldable pub own_name : (alone : Bool) → ℕ
own_name alone = if alone then 1 else 11

pub own_named : (alone : Bool) (used digits : List ℕ) (noted : Bool) (none : List ℕ) → AreDigits digits → slice_index_or (names_in (file_parts alone used digits noted)) (own_name alone) none ≡ 112 ∷ digits
unfolding own_name use_parts line_parts
own_named true used digits noted none are = ap (λ (bytes : List ℕ). 112 ∷ bytes) (same_case digits are.all)
own_named false used digits noted none are = ap (λ (bytes : List ℕ). 112 ∷ bytes) (same_case digits are.all)

pub library_named : (lex_state : ℕ) (alone : Bool) (used digits : List ℕ) (noted : Bool) (none : List ℕ) → alone ≡ false → (lex_state ≡ 1) ⊎ (lex_state ≡ 4) → slice_index_or (names_in (file_parts alone used digits noted)) lex_state none ≡ codes "lib"
unfolding use_parts line_parts
library_named lex_state true used digits noted none uses is = let no_way : ⊥ = cc in absurd no_way
library_named lex_state false used digits noted none uses is =
    ⊎_elim
    (λ (one : lex_state ≡ 1). ap (λ (n : ℕ). slice_index_or (names_in (file_parts false used digits noted)) n none) one)
    (λ (four : lex_state ≡ 4). ap (λ (n : ℕ). slice_index_or (names_in (file_parts false used digits noted)) n none) four)
    is

pub used_named : (alone : Bool) (used digits : List ℕ) (noted : Bool) (none : List ℕ) → AreDigits used → alone ≡ false → slice_index_or (names_in (file_parts alone used digits noted)) 6 none ≡ 112 ∷ used
unfolding use_parts line_parts
used_named true used digits noted none are uses = let no_way : ⊥ = cc in absurd no_way
used_named false used digits noted none are uses = ap (λ (bytes : List ℕ). 112 ∷ bytes) (same_case used are.all)
