-- The parts of the file of a package.
use Rattle.std.proofs.Common.{◌≡◌, ℕ, Bool, true, false, ◌&&◌, List, [], ◌∷◌, ◌++◌, refl, sym, ap, ◌∙◌, arith, append_assoc}
use Rattle.std.specs.Prelude.{codes, if◌then◌else◌}
use Rattle.std.specs.Char.{is_ascii_digit}
use Rattle.std.specs.List.{list_all}
use Rattle.std.proofs.lemmas.Bool.Decides.{nat_tests}
use Rattle.vhdl_spec.specs.Tokens.{is_word_byte}
use Rattle.generated_project.specs.Files.{library_words, all_words, package_words, constant_words, end_words, note_line}
use Rattle.generated_sources.proofs.Parts.{letters, number, delimiter, gap, note, Part, joined, is_part, are_parts}
use Rattle.generated_sources.proofs.ByteTests.{both_of}

abbrev pub word : List ℕ → Part
word bytes = record { kind = letters; bytes = bytes }

abbrev pub sign : ℕ → Part
sign byte = record { kind = delimiter; bytes = byte ∷ [] }

abbrev pub blank : ℕ → Part
blank byte = record { kind = gap; bytes = byte ∷ [] }

-- a name with these digits
abbrev name : List ℕ → Part
name digits = word (112 ∷ digits)

unfoldable pub use_parts : List ℕ → List Part
use_parts digits =
    word (codes "library") ∷ blank 32 ∷ word (codes "lib") ∷ sign 59 ∷ blank 10 ∷ word (codes "use") ∷ blank 32 ∷ word (codes "lib") ∷
    sign 46 ∷ name digits ∷ sign 46 ∷ word (codes "all") ∷ sign 59 ∷ blank 10 ∷ []

unfoldable pub line_parts : List ℕ → List Part
line_parts digits =
    word (codes "package") ∷ blank 32 ∷ name digits ∷ blank 32 ∷ word (codes "is") ∷ blank 10 ∷ blank 32 ∷ blank 32 ∷
    word (codes "constant") ∷ blank 32 ∷ word (codes "c") ∷ blank 32 ∷ sign 58 ∷ blank 32 ∷ word (codes "integer") ∷ blank 32 ∷
    sign 58 ∷ sign 61 ∷ blank 32 ∷ record { kind = number; bytes = codes "0" } ∷ sign 59 ∷ blank 10 ∷ word (codes "end") ∷ blank 32 ∷
    word (codes "package") ∷ blank 32 ∷ name digits ∷ sign 59 ∷ blank 10 ∷ []

unfoldable pub note_parts : List Part
note_parts = record { kind = note; bytes = codes "-- child: note 1" } ∷ blank 10 ∷ []

-- those of a file that uses a package, or none, and that is edited or not
abbrev pub file_parts : (alone : Bool) → (used digits : List ℕ) → (noted : Bool) → List Part
file_parts alone used digits noted = (if alone then [] else use_parts used) ++ (line_parts digits ++ (if noted then note_parts else []))

-- ## They are the text

use_text : (digits rest : List ℕ) → joined (use_parts digits) rest ≡ (library_words ++ (digits ++ all_words)) ++ rest
unfolding use_parts library_words all_words
use_text digits rest = ap (λ (t : List ℕ). library_words ++ t) (sym (append_assoc digits all_words rest))

regrouped : (a d c e rest : List ℕ) → a ++ (d ++ (c ++ (d ++ (e ++ rest)))) ≡ ((a ++ (d ++ c)) ++ (d ++ e)) ++ rest
regrouped a d c e rest = simp append_assoc refl

line_text : (digits rest : List ℕ) → joined (line_parts digits) rest ≡ ((package_words ++ (digits ++ constant_words)) ++ (digits ++ end_words)) ++ rest
unfolding line_parts package_words constant_words end_words
line_text digits rest = regrouped package_words digits constant_words end_words rest

note_text : joined note_parts [] ≡ note_line
unfolding note_parts note_line
note_text = refl

joined_append : (xs ys : List Part) (rest : List ℕ) → joined (xs ++ ys) rest ≡ joined xs (joined ys rest)
joined_append [] ys rest = refl
joined_append (x ∷ xs) ys rest = ap (λ (t : List ℕ). x.bytes ++ t) (joined_append xs ys rest)

-- ## Each part begins and ends as its kind has it

word_byte : (byte : ℕ) → is_ascii_digit byte ≡ true → is_word_byte byte ≡ true
word_byte byte is = grind (arith, nat_tests)

use_fits : (digits rest : List ℕ) → list_all is_word_byte digits ≡ true → are_parts (use_parts digits) rest ≡ true
unfolding use_parts
use_fits digits rest all = ap (λ (x : Bool). (x && true) && true) all

line_fits : (digits rest : List ℕ) → list_all is_word_byte digits ≡ true → are_parts (line_parts digits) rest ≡ true
unfolding line_parts
line_fits digits rest all = ap (λ (x : Bool). (x && true) && ((x && true) && true)) all

note_fits : are_parts note_parts [] ≡ true
unfolding note_parts
note_fits = refl

-- ## The whole file

append_fits : (xs ys : List Part) (rest : List ℕ) → are_parts xs (joined ys rest) ≡ true → are_parts ys rest ≡ true → are_parts (xs ++ ys) rest ≡ true
append_fits [] ys rest left right = right
append_fits (x ∷ xs) ys rest left right =
    let both = both_of (is_part x.kind x.bytes (joined xs (joined ys rest))) (are_parts xs (joined ys rest)) left in
    let first : is_part x.kind x.bytes (joined (xs ++ ys) rest) ≡ true = ap (is_part x.kind x.bytes) (joined_append xs ys rest) ∙ both.0 in
    ap (λ (test : Bool). test && are_parts (xs ++ ys) rest) first ∙ append_fits xs ys rest both.1 right

-- the text of a file that uses a package with these digits, or none, and whose own has these
abbrev pub file_text : (alone : Bool) → (used digits : List ℕ) → (noted : Bool) → List ℕ
file_text alone used digits noted =
    (if alone then [] else library_words ++ (used ++ all_words)) ++
    (((package_words ++ (digits ++ constant_words)) ++ (digits ++ end_words)) ++ (if noted then note_line else []))

noted_text : (noted : Bool) → joined (if noted then note_parts else []) [] ≡ (if noted then note_line else [])
noted_text true = note_text
noted_text false = refl

noted_fits : (noted : Bool) → are_parts (if noted then note_parts else []) [] ≡ true
noted_fits true = note_fits
noted_fits false = refl

joined_lines : (digits : List ℕ) (noted : Bool) → joined (line_parts digits ++ (if noted then note_parts else [])) [] ≡ file_text true [] digits noted
joined_lines digits noted =
    joined_append (line_parts digits) (if noted then note_parts else []) []
    ∙ ap (joined (line_parts digits)) (noted_text noted)
    ∙ line_text digits (if noted then note_line else [])

pub joined_file : (alone : Bool) (used digits : List ℕ) (noted : Bool) → joined (file_parts alone used digits noted) [] ≡ file_text alone used digits noted
joined_file true used digits noted = joined_lines digits noted
joined_file false used digits noted =
    joined_append (use_parts used) (line_parts digits ++ (if noted then note_parts else [])) []
    ∙ ap (joined (use_parts used)) (joined_lines digits noted)
    ∙ use_text used (file_text true [] digits noted)

lines_fit : (digits : List ℕ) (noted : Bool) → list_all is_word_byte digits ≡ true → are_parts (line_parts digits ++ (if noted then note_parts else [])) [] ≡ true
lines_fit digits noted all = append_fits (line_parts digits) (if noted then note_parts else []) [] (line_fits digits (joined (if noted then note_parts else []) []) all) (noted_fits noted)

pub file_fits : (alone : Bool) (used digits : List ℕ) (noted : Bool) → list_all is_word_byte used ≡ true → list_all is_word_byte digits ≡ true → are_parts (file_parts alone used digits noted) [] ≡ true
file_fits true used digits noted of_used of_own = lines_fit digits noted of_own
file_fits false used digits noted of_used of_own =
    append_fits (use_parts used) (line_parts digits ++ (if noted then note_parts else [])) []
    (use_fits used (joined (line_parts digits ++ (if noted then note_parts else [])) []) of_used) (lines_fit digits noted of_own)

-- digits are bytes of words
pub all_word_bytes : (digits : List ℕ) → list_all is_ascii_digit digits ≡ true → list_all is_word_byte digits ≡ true
all_word_bytes [] all = refl
all_word_bytes (byte ∷ digits) all =
    let both = both_of (is_ascii_digit byte) (list_all is_ascii_digit digits) all in
    ap (λ (test : Bool). test && list_all is_word_byte digits) (word_byte byte both.0) ∙ all_word_bytes digits both.1
