-- The table of reserved words is exact: by trying all its words.
use Rattle.std.proofs.Common.{◌≡◌, ◌≢◌, not, zero, suc, ℕ, ◌+◌, ◌-◌, ◌*◌, ◌/◌, ◌%◌, ◌<◌, ◌≤◌, ◌&&◌, ◌↔◌, IsTrue, Bool, true, false, List, [], ◌∷◌, ◌⊎◌, length, slice_index, slice_index_or, slice_range, bit_or, bytes_eq, nat_eq, nat_le, nat_lt, refl, sym, ◌∙◌, ap, subst, inl, inr, ⊎_elim, arith, add-one}
use Rattle.std.proofs.Math.Dec.{eqb-suc-zero}
use Rattle.std.specs.List.{list_any}
use Rattle.std.specs.Char.{to_ascii_lowercase}
use Rattle.std.proofs.Math.ListN.{get_or-map}
use Rattle.std.proofs.lemmas.Nat.{mod_below}
use Rattle.std.proofs.lemmas.Bool.{ltb-true, leb-true}
use Rattle.std.proofs.lemmas.List.{length-map}
use Rattle.std.proofs.lemmas.List.Folds.{list_any_at}
use Rattle.std.proofs.lemmas.Bool.{eqb-true}
use Rattle.std.proofs.lemmas.Slice.Eq.{bytes_eq-Decides}
use Rattle.vhdl_spec.specs.Words.{is_reserved, lower_case, reserved_words}
use Rattle.vhdl_lex.specs.Buckets.{IsNumberOf, without_case, bucket_of}
use Rattle.vhdl_lex.specs.declared.reserved.TheConstants.{LETTERS, LOWER, STARTS, NUMBERS}
use Rattle.vhdl_lex.proofs.Classes.{tests_below, each_below, and_parts, or_parts}

abbrev word_number : ℕ → List ℕ
word_number number = slice_index_or reserved_words number []

-- ## What trying shows

abbrev starts_right : ℕ → Bool
starts_right number = nat_le (slice_index STARTS number) (slice_index STARTS (number + 1)) && nat_le (slice_index STARTS (number + 1)) 642

starts_tried : tests_below starts_right 115 ≡ true
unfolding tests_below
starts_tried = refl

abbrev letters_right : ℕ → Bool
letters_right number = bytes_eq (slice_range LETTERS (slice_index STARTS number) (slice_index STARTS (number + 1))) (word_number number)

letters_tried : tests_below letters_right 115 ≡ true
unfolding tests_below reserved_words
letters_tried = refl

abbrev bucket_right : ℕ → Bool
bucket_right number = nat_eq (slice_index NUMBERS (bucket_of (word_number number))) (number + 1) && (bytes_eq (lower_case (word_number number)) (word_number number) && nat_lt 0 (length (word_number number)))

buckets_tried : tests_below bucket_right 115 ≡ true
unfolding tests_below reserved_words bucket_of
buckets_tried = refl

numbers_tried : tests_below (λ offset. nat_le (slice_index NUMBERS offset) 115) 1024 ≡ true
unfolding tests_below
numbers_tried = refl

case_tried : tests_below (λ byte. nat_eq (bit_or (to_ascii_lowercase byte) 32) (bit_or byte 32)) 256 ≡ true
unfolding tests_below
case_tried = refl

lowered_tried : tests_below (λ byte. nat_eq (slice_index_or LOWER byte 0) (to_ascii_lowercase byte)) 256 ≡ true
unfolding tests_below
lowered_tried = refl

-- ## What it means

pub lowered_is : (byte : ℕ) → byte < 256 → slice_index_or LOWER byte 0 ≡ to_ascii_lowercase byte
lowered_is byte small = eqb-true _ _ (each_below (λ byte. nat_eq (slice_index_or LOWER byte 0) (to_ascii_lowercase byte)) 256 lowered_tried byte small)

module _ (number : ℕ) (small : number < 115) where
  pub starts_ordered : slice_index STARTS number ≤ slice_index STARTS (number + 1)
  starts_ordered = leb-true _ _ (and_parts _ _ (each_below starts_right 115 starts_tried number small)).0

  pub start_within : slice_index STARTS (number + 1) ≤ 642
  start_within = leb-true _ _ (and_parts _ _ (each_below starts_right 115 starts_tried number small)).1

  pub letters_are : slice_range LETTERS (slice_index STARTS number) (slice_index STARTS (number + 1)) ≡ word_number number
  letters_are = (bytes_eq-Decides _ _).0 (each_below letters_right 115 letters_tried number small)

  offset_is : slice_index NUMBERS (bucket_of (word_number number)) ≡ number + 1
  offset_is = eqb-true _ _ (and_parts _ _ (each_below bucket_right 115 buckets_tried number small)).0

  pub lower_is : lower_case (word_number number) ≡ word_number number
  lower_is = (bytes_eq-Decides _ _).0 (and_parts _ _ (and_parts _ _ (each_below bucket_right 115 buckets_tried number small)).1).0

  is_some : 0 < length (word_number number)
  is_some = ltb-true _ _ (and_parts _ _ (and_parts _ _ (each_below bucket_right 115 buckets_tried number small)).1).1

pub number_within : (offset : ℕ) → offset < 1024 → slice_index NUMBERS offset ≤ 115
number_within offset small = leb-true _ _ (each_below (λ offset. nat_le (slice_index NUMBERS offset) 115) 1024 numbers_tried offset small)

case_dropped : (byte : ℕ) → byte < 256 → bit_or (to_ascii_lowercase byte) 32 ≡ bit_or byte 32
case_dropped byte small = eqb-true _ _ (each_below (λ byte. nat_eq (bit_or (to_ascii_lowercase byte) 32) (bit_or byte 32)) 256 case_tried byte small)

-- a word and its lower case have one offset
same_bucket : (word : List ℕ) → ((i : ℕ) → slice_index word i < 256) → bucket_of (lower_case word) ≡ bucket_of word
unfolding bucket_of
same_bucket word small =
    let lengths : length (lower_case word) ≡ length word = length-map word to_ascii_lowercase in
    let at : (i : ℕ) → without_case (lower_case word) i ≡ without_case word i = λ i. ap (λ (b : ℕ). bit_or b 32) (get_or-map to_ascii_lowercase word i 0) ∙ case_dropped (slice_index word i) (small i) in
    let at_length : (f : ℕ → ℕ) → without_case (lower_case word) (f (length (lower_case word))) ≡ without_case word (f (length word)) = λ f. at (f (length (lower_case word))) ∙ ap (λ (n : ℕ). without_case word (f n)) lengths in
    λ i. (115 * at 0 i + 175 * at_length (λ n. n / 2) i + 174 * at_length (λ n. n - 1) i + 74 * (lengths i % 64)) % 1024

length_of_words : length reserved_words ≡ 115
unfolding reserved_words
length_of_words = refl

-- the number of a word of a list that passes a test
where_any : (test : List ℕ → Bool) (words : List (List ℕ)) → list_any test words ≡ true → (number : ℕ) × (number < length words) × (test (slice_index_or words number []) ≡ true)
where_any test [] any = cc
where_any test (word ∷ words) any =
    ⊎_elim (λ (here : test word ≡ true). (0, omega arith, here)) (λ (later : list_any test words ≡ true). let rest = where_any test words later in (rest.0 + 1, omega (arith, rest.1), subst (λ (n : ℕ). test (slice_index_or (word ∷ words) n []) ≡ true) (sym (add-one rest.0)) rest.2)) (or_parts (test word) (list_any test words) any)

-- a reserved word is the one of its offset
record IsAt (word : List ℕ) (number : ℕ) : Type 0 where
  small : number < 115
  offset : slice_index NUMBERS (bucket_of word) ≡ number + 1
  same : lower_case word ≡ word_number number

number_of : (word : List ℕ) → ((i : ℕ) → slice_index word i < 256) → is_reserved word ≡ true → (number : ℕ) × IsAt word number
number_of word within reserved =
    let found = where_any (bytes_eq (lower_case word)) reserved_words reserved in
    let small : found.0 < 115 = omega (arith, found.1, length_of_words) in
    let same : lower_case word ≡ word_number found.0 = (bytes_eq-Decides (lower_case word) (word_number found.0)).0 found.2 in
    (found.0, record { small = small; offset = ap (slice_index NUMBERS) (sym (same_bucket word within) ∙ ap bucket_of same) ∙ offset_is found.0 small; same = same })

reserved_at : (word : List ℕ) (number : ℕ) → number < 115 → lower_case word ≡ word_number number → is_reserved word ≡ true
reserved_at word number small same =
    let within : number < length reserved_words = omega (arith, length_of_words) in
    list_any_at (bytes_eq (lower_case word)) reserved_words number [] within ((bytes_eq-Decides (lower_case word) (word_number number)).1 same)

bool_cases : (b : Bool) → (b ≡ true) ⊎ (b ≡ false)
bool_cases true = inl refl
bool_cases false = inr refl

-- a test that is true exactly where a word is reserved
exactly : (same reserved : Bool) → (same ≡ true → reserved ≡ true) → (reserved ≡ true → same ≡ true) → same ≡ reserved
exactly true reserved if_same if_reserved = sym (if_same refl)
exactly false true if_same if_reserved = if_reserved refl
exactly false false if_same if_reserved = refl

-- the comparison with the word at the offset decides
pub decides : (word : List ℕ) (number : ℕ) (same : Bool) → ((i : ℕ) → slice_index word i < 256) → number < 115 → slice_index NUMBERS (bucket_of word) ≡ number + 1 → (IsTrue same ↔ (lower_case word ≡ lower_case (word_number number))) → same ≡ is_reserved word
decides word number same within small found test =
    exactly same (is_reserved word)
    (λ e. reserved_at word number small (test.0 e ∙ lower_is number small))
    (λ e.
    let other = number_of word within e in
    let numbers : other.0 ≡ number = omega (arith, other.1.offset, found) in
    test.1 (other.1.same ∙ ap word_number numbers ∙ sym (lower_is number small)))

-- no number at the offset: not reserved
pub none_there : (word : List ℕ) → ((i : ℕ) → slice_index word i < 256) → slice_index NUMBERS (bucket_of word) ≡ 0 → false ≡ is_reserved word
none_there word within none =
    exactly false (is_reserved word) (λ e. cc) (λ e. let other = number_of word within e in absurd (omega (arith, other.1.offset, none)))

pub empty_is_not : false ≡ is_reserved []
unfolding reserved_words
empty_is_not = refl

pub bucket_small : (word : List ℕ) → bucket_of word < 1024
unfolding bucket_of
bucket_small word = mod_below _ 1024 (omega arith)

pub number_is : (word : List ℕ) (number : ℕ) → number ≢ 0 → number ≤ 115 → lower_case word ≡ lower_case (word_number (number - 1)) → IsNumberOf word number
number_is word zero some within same = absurd (some refl)
number_is word (suc number) some within same =
    let small : number < 115 = omega arith in
    let before : suc number - 1 ≡ number = omega arith in
    (small, same ∙ ap (λ (n : ℕ). lower_case (word_number n)) before ∙ lower_is number small)

pub reserved_by_number : (word : List ℕ) (number : ℕ) → IsNumberOf word number → not (nat_eq number 0) ≡ is_reserved word
reserved_by_number word zero is = sym is
reserved_by_number word (suc number) is = ap not (eqb-suc-zero number) ∙ sym (reserved_at word number is.0 is.1)
