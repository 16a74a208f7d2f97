-- The table of roles is right, by trying all reserved words.
use Rattle.std.proofs.Common.{◌≡◌, ℕ, ◌<◌, ◌⊎◌, inl, inr, Bool, true, false, cond, List, [], ◌∷◌, length, map, slice_index_or, bytes_eq, refl, sym, ◌∙◌, ap, ⊎_elim, arith, lit<}
use Rattle.std.specs.List.{list_any}
use Rattle.std.specs.Char.{to_ascii_lowercase}
use Rattle.std.proofs.lemmas.List.{get_or-map}
use Rattle.std.proofs.lemmas.List.Folds.{list_any_at}
use Rattle.std.proofs.lemmas.Bool.Decides.{nat_tests}
use Rattle.base.specs.declared.design.Role.{Role}
use Rattle.base.specs.declared.design.Role.TheVariants.{Library, Use, Context, Entity, Architecture, Configuration, Package, Body, Is, Of, New, Function, Procedure, Generate, End, If, For, Case, Elsif, Else, Component, Inner, All, Generic, Name, Other}
use Rattle.vhdl_spec.specs.Words.{is_reserved, lower_case, reserved_words}
use Rattle.vhdl_spec.specs.Units.{word_role}
use Rattle.vhdl_lex.specs.declared.roles.TheConstants.{ROLES}

roles_are : map word_role reserved_words ≡ ROLES
unfolding reserved_words word_role
roles_are = refl

words_are : length reserved_words ≡ 115
unfolding reserved_words
words_are = refl

pub role_of_number : (word : List ℕ) (number : ℕ) → number < 115 → lower_case word ≡ slice_index_or reserved_words number [] → slice_index_or ROLES number Library ≡ word_role (lower_case word)
role_of_number word number small same =
    let within : number < length reserved_words = omega (arith, words_are) in
    ap (λ (roles : List Role). slice_index_or roles number Library) (sym roles_are) ∙ get_or-map word_role reserved_words number [] Library within ∙ ap word_role (sym same)

bool_cases : (b : Bool) → (b ≡ true) ⊎ (b ≡ false)
bool_cases true = inl refl
bool_cases false = inr refl

none_passes : (test : List ℕ → Bool) (words : List (List ℕ)) → list_any test words ≡ false → (number : ℕ) → number < length words → test (slice_index_or words number []) ≡ false
none_passes test words none number within =
    ⊎_elim (λ passes. let any : list_any test words ≡ true = list_any_at test words number [] within passes in cc) (λ fails. fails) (bool_cases (test (slice_index_or words number [])))

skip : (test : Bool) {later row : Role} (here : Role) → test ≡ false → later ≡ row → cond test here later ≡ row
skip true here fails is = cc
skip false here fails is = is

lower_once : (byte : ℕ) → to_ascii_lowercase (to_ascii_lowercase byte) ≡ to_ascii_lowercase byte
lower_once byte = grind (arith, nat_tests)

lower_twice : (word : List ℕ) → lower_case (lower_case word) ≡ lower_case word
lower_twice [] = refl
lower_twice (byte ∷ word) = λ i. lower_once byte i ∷ lower_twice word i

pub role_of_other : (word : List ℕ) → is_reserved word ≡ false → word_role (lower_case word) ≡ Name
unfolding reserved_words word_role
role_of_other word no_word =
    let other = λ (number : ℕ) (small : number < 115). none_passes (bytes_eq (lower_case word)) reserved_words no_word number small in
    skip _ Library (other 47 (lit< tt)) (
    skip _ Use (other 104 (lit< tt)) (
    skip _ Context (other 21 (lit< tt)) (
    skip _ Entity (other 29 (lit< tt)) (
    skip _ Architecture (other 6 (lit< tt)) (
    skip _ Configuration (other 19 (lit< tt)) (
    skip _ Package (other 65 (lit< tt)) (
    skip _ Body (other 14 (lit< tt)) (
    skip _ Is (other 45 (lit< tt)) (
    skip _ Of (other 59 (lit< tt)) (
    skip _ New (other 54 (lit< tt)) (
    skip _ Function (other 35 (lit< tt)) (
    skip _ Procedure (other 69 (lit< tt)) (
    skip _ Generate (other 36 (lit< tt)) (
    skip _ End (other 28 (lit< tt)) (
    skip _ If (other 40 (lit< tt)) (
    skip _ For (other 33 (lit< tt)) (
    skip _ Case (other 17 (lit< tt)) (
    skip _ Elsif (other 27 (lit< tt)) (
    skip _ Else (other 26 (lit< tt)) (
    skip _ Inner (other 50 (lit< tt)) (
    skip _ Inner (other 13 (lit< tt)) (
    skip _ Inner (other 70 (lit< tt)) (
    skip _ Inner (other 75 (lit< tt)) (
    skip _ Inner (other 102 (lit< tt)) (
    skip _ Inner (other 72 (lit< tt)) (
    skip _ Component (other 18 (lit< tt)) (
    skip _ Inner (other 68 (lit< tt)) (
    skip _ All (other 4 (lit< tt)) (
    skip _ Generic (other 37 (lit< tt)) (
    skip _ Other (ap (λ (w : List ℕ). list_any (bytes_eq w) reserved_words) (lower_twice word) ∙ no_word) refl))))))))))))))))))))))))))))))
