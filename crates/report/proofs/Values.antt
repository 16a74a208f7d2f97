-- What a name that is UTF-8 is as a value, character by character.
use Rattle.std.proofs.Common.{◌≡◌, ℕ, ◌+◌, ◌/◌, ◌%◌, ◌<◌, ◌≤◌, false, ◌&&◌, ◌||◌, ◌⊎◌, eqb, ltb, List, [], ◌∷◌, ◌++◌, inl, inr, ⊎_elim, refl, sym, ap, subst, ◌∙◌, arith}
use Rattle.std.specs.List.{flat_map}
use Rattle.std.specs.Char.{encode_utf8}
use Rattle.std.specs.Str.{encode_utf8_all}
use Rattle.std.proofs.lemmas.Bool.{and_left, and_parts, and_right, cases_eq, cases_lt, cond-false, cond-true, eqb-true, false_from_ne_true, le-ltb, lt-ltb, ne_eqb, or_cases, or_from}
use Rattle.std.proofs.lemmas.List.Concat.{flat_map-cons}
use Rattle.report.specs.Junit.{ends_no_character, value, value_after, value_byte, xml_byte, xml_character}

-- ## Bytes that end none of the two characters

other_last : (a b x : ℕ) → (x ≡ 190 → ⊥) → (x ≡ 191 → ⊥) → ends_no_character a b x ≡ false
other_last a b x low high =
    let last : (eqb x 190 || eqb x 191) ≡ false = or_from (eqb x 190) (eqb x 191) (ne_eqb x 190 low) (ne_eqb x 191 high) in
    and_right (eqb a 239) (eqb b 191 && (eqb x 190 || eqb x 191)) (and_right (eqb b 191) (eqb x 190 || eqb x 191) last)

after_other : (a b x : ℕ) → (b ≡ 191 → ⊥) → ends_no_character a b x ≡ false
after_other a b x other = and_right (eqb a 239) (eqb b 191 && (eqb x 190 || eqb x 191)) (and_left (eqb b 191) (eqb x 190 || eqb x 191) (ne_eqb b 191 other))

after_another : (a b x : ℕ) → (a ≡ 239 → ⊥) → ends_no_character a b x ≡ false
after_another a b x other = and_left (eqb a 239) (eqb b 191 && (eqb x 190 || eqb x 191)) (ne_eqb a 239 other)

-- such a byte from 128 on stands for itself
plain_byte : (a b x : ℕ) → 128 ≤ x → ends_no_character a b x ≡ false → value_byte a b x ≡ x ∷ []
unfolding value_byte xml_byte
plain_byte a b x big plain =
    cond-false (ends_no_character a b x) _ _ plain
    ∙ cond-false (eqb x 38) _ _ (ne_eqb x 38 (λ e. omega arith)) ∙ cond-false (eqb x 60) _ _ (ne_eqb x 60 (λ e. omega arith)) ∙ cond-false (eqb x 62) _ _ (ne_eqb x 62 (λ e. omega arith))
    ∙ cond-false (eqb x 34) _ _ (ne_eqb x 34 (λ e. omega arith)) ∙ cond-false (eqb x 39) _ _ (ne_eqb x 39 (λ e. omega arith))

-- and the first byte of a multi-byte character stands for itself
first_byte : (a b x : ℕ) → 192 ≤ x → value_byte a b x ≡ x ∷ []
first_byte a b x big = plain_byte a b x (omega arith) (other_last a b x (λ e. omega arith) (λ e. omega arith))

-- one of ASCII is as XML has it
low_byte : (a b x : ℕ) → x < 128 → value_byte a b x ≡ xml_byte x
unfolding value_byte
low_byte a b x low = cond-false (ends_no_character a b x) _ _ (other_last a b x (λ e. omega arith) (λ e. omega arith))

-- ## The bytes of a character, before others

two_bytes : (x y : ℕ) (rest whole : List ℕ) → 192 ≤ x → 128 ≤ y → ((a b : ℕ) → value_after a b rest ≡ whole) → (a b : ℕ) → value_after a b (x ∷ y ∷ rest) ≡ x ∷ y ∷ whole
unfolding value_after
two_bytes x y rest whole big high after a b =
    let second : value_byte b x y ≡ y ∷ [] = plain_byte b x y high (after_other b x y (λ e. omega arith)) in
    ap (λ (l : List ℕ). l ++ (value_byte b x y ++ value_after x y rest)) (first_byte a b x big)
    ∙ ap (λ (l : List ℕ). x ∷ (l ++ value_after x y rest)) second
    ∙ ap (λ (l : List ℕ). x ∷ y ∷ l) (after x y)

three_bytes : (x y z : ℕ) (rest whole last : List ℕ) → 192 ≤ x → 128 ≤ y → value_byte x y z ≡ last → ((a b : ℕ) → value_after a b rest ≡ whole)
    → (a b : ℕ) → value_after a b (x ∷ y ∷ z ∷ rest) ≡ x ∷ y ∷ (last ++ whole)
unfolding value_after
three_bytes x y z rest whole last big high third after a b =
    let second : value_byte b x y ≡ y ∷ [] = plain_byte b x y high (after_other b x y (λ e. omega arith)) in
    ap (λ (l : List ℕ). l ++ (value_byte b x y ++ (value_byte x y z ++ value_after y z rest))) (first_byte a b x big)
    ∙ ap (λ (l : List ℕ). x ∷ (l ++ (value_byte x y z ++ value_after y z rest))) second
    ∙ ap (λ (l : List ℕ). x ∷ y ∷ (l ++ value_after y z rest)) third
    ∙ ap (λ (l : List ℕ). x ∷ y ∷ (last ++ l)) (after y z)

four_bytes : (x y z w : ℕ) (rest whole : List ℕ) → 240 ≤ x → 128 ≤ y → y < 192 → 128 ≤ z → 128 ≤ w → ((a b : ℕ) → value_after a b rest ≡ whole)
    → (a b : ℕ) → value_after a b (x ∷ y ∷ z ∷ w ∷ rest) ≡ x ∷ y ∷ z ∷ w ∷ whole
unfolding value_after
four_bytes x y z w rest whole big high low third_high last_high after a b =
    let third : value_byte x y z ≡ z ∷ [] = plain_byte x y z third_high (after_another x y z (λ e. omega arith)) in
    let last : value_byte y z w ≡ w ∷ [] = plain_byte y z w last_high (after_another y z w (λ e. omega arith)) in
    let second : value_byte b x y ≡ y ∷ [] = plain_byte b x y high (after_other b x y (λ e. omega arith)) in
    ap (λ (l : List ℕ). l ++ (value_byte b x y ++ (value_byte x y z ++ (value_byte y z w ++ value_after z w rest)))) (first_byte a b x (omega arith))
    ∙ ap (λ (l : List ℕ). x ∷ (l ++ (value_byte x y z ++ (value_byte y z w ++ value_after z w rest)))) second
    ∙ ap (λ (l : List ℕ). x ∷ y ∷ (l ++ (value_byte y z w ++ value_after z w rest))) third
    ∙ ap (λ (l : List ℕ). x ∷ y ∷ z ∷ (l ++ value_after z w rest)) last
    ∙ ap (λ (l : List ℕ). x ∷ y ∷ z ∷ w ∷ l) (after z w)

-- ## How UTF-8 spells a character

one : (c : ℕ) → c < 128 → encode_utf8 c ≡ c ∷ []
unfolding encode_utf8
one c low = cond-true (ltb c 128) _ _ (lt-ltb c 128 low)

two : (c : ℕ) → 128 ≤ c → c < 2048 → encode_utf8 c ≡ (192 + c / 64) ∷ (128 + c % 64) ∷ []
unfolding encode_utf8
two c big low = cond-false (ltb c 128) _ _ (le-ltb c 128 big) ∙ cond-true (ltb c 2048) _ _ (lt-ltb c 2048 low)

three : (c : ℕ) → 2048 ≤ c → c < 65536 → encode_utf8 c ≡ (224 + c / 4096) ∷ (128 + c / 64 % 64) ∷ (128 + c % 64) ∷ []
unfolding encode_utf8
three c big low =
    cond-false (ltb c 128) _ _ (le-ltb c 128 (omega arith)) ∙ cond-false (ltb c 2048) _ _ (le-ltb c 2048 big) ∙ cond-true (ltb c 65536) _ _ (lt-ltb c 65536 low)

four : (c : ℕ) → 65536 ≤ c → encode_utf8 c ≡ (240 + c / 262144) ∷ (128 + c / 4096 % 64) ∷ (128 + c / 64 % 64) ∷ (128 + c % 64) ∷ []
unfolding encode_utf8
four c big =
    cond-false (ltb c 128) _ _ (le-ltb c 128 (omega arith)) ∙ cond-false (ltb c 2048) _ _ (le-ltb c 2048 (omega arith)) ∙ cond-false (ltb c 65536) _ _ (le-ltb c 65536 big)

-- a character that isn't one of the two
low_character : (c : ℕ) → c < 128 → xml_character c ≡ xml_byte c
unfolding xml_character
low_character c low =
    cond-false (eqb c 65534 || eqb c 65535) _ _ (or_from (eqb c 65534) (eqb c 65535) (ne_eqb c 65534 (λ e. omega arith)) (ne_eqb c 65535 (λ e. omega arith)))
    ∙ cond-true (ltb c 128) _ _ (lt-ltb c 128 low)

other_character : (c : ℕ) → 128 ≤ c → (c ≡ 65534 → ⊥) → (c ≡ 65535 → ⊥) → xml_character c ≡ encode_utf8 c
unfolding xml_character
other_character c big first second =
    cond-false (eqb c 65534 || eqb c 65535) _ _ (or_from (eqb c 65534) (eqb c 65535) (ne_eqb c 65534 first) (ne_eqb c 65535 second))
    ∙ cond-false (ltb c 128) _ _ (le-ltb c 128 big)

-- the bytes of U+FFFE and of U+FFFF
low_end : (c : ℕ) → c < 65536 → 224 + c / 4096 ≡ 239 → 128 + c / 64 % 64 ≡ 191 → 128 + c % 64 ≡ 190 → c ≡ 65534
low_end c low x y z = omega arith

high_end : (c : ℕ) → c < 65536 → 224 + c / 4096 ≡ 239 → 128 + c / 64 % 64 ≡ 191 → 128 + c % 64 ≡ 191 → c ≡ 65535
high_end c low x y z = omega arith

three_plain : (c : ℕ) → c < 65536 → (c ≡ 65534 → ⊥) → (c ≡ 65535 → ⊥) → ends_no_character (224 + c / 4096) (128 + c / 64 % 64) (128 + c % 64) ≡ false
three_plain c low first second =
    let x : ℕ = 224 + c / 4096 in
    let y : ℕ = 128 + c / 64 % 64 in
    let z : ℕ = 128 + c % 64 in
    false_from_ne_true (ends_no_character x y z) (λ t.
    let a = and_parts (eqb x 239) (eqb y 191 && (eqb z 190 || eqb z 191)) t in
    let b = and_parts (eqb y 191) (eqb z 190 || eqb z 191) a.1 in
    let x_is : x ≡ 239 = eqb-true x 239 a.0 in
    let y_is : y ≡ 191 = eqb-true y 191 b.0 in
    ⊎_elim (λ e. first (low_end c low x_is y_is (eqb-true z 190 e))) (λ e. second (high_end c low x_is y_is (eqb-true z 191 e))) (or_cases (eqb z 190) (eqb z 191) b.1))

-- ## A character, before others

abbrev Goes : List ℕ → List ℕ → Type 0
Goes bytes whole = (a b : ℕ) → value_after a b bytes ≡ whole

put_one : (c : ℕ) (rest whole : List ℕ) → c < 128 → Goes rest whole → Goes (encode_utf8 c ++ rest) (xml_character c ++ whole)
unfolding value_after
put_one c rest whole low after a b =
    ap (λ (l : List ℕ). value_after a b (l ++ rest)) (one c low) ∙ ap (λ (l : List ℕ). l ++ value_after b c rest) (low_byte a b c low)
    ∙ ap (λ (l : List ℕ). xml_byte c ++ l) (after b c) ∙ ap (λ (l : List ℕ). l ++ whole) (sym (low_character c low))

put_two : (c : ℕ) (rest whole : List ℕ) → 128 ≤ c → c < 2048 → Goes rest whole → Goes (encode_utf8 c ++ rest) (xml_character c ++ whole)
put_two c rest whole big low after a b =
    ap (λ (l : List ℕ). value_after a b (l ++ rest)) (two c big low) ∙ two_bytes (192 + c / 64) (128 + c % 64) rest whole (omega arith) (omega arith) after a b
    ∙ ap (λ (l : List ℕ). l ++ whole) (sym (other_character c big (λ e. omega arith) (λ e. omega arith) ∙ two c big low))

put_three : (c : ℕ) (rest whole : List ℕ) → 2048 ≤ c → c < 65536 → (c ≡ 65534 → ⊥) → (c ≡ 65535 → ⊥) → Goes rest whole → Goes (encode_utf8 c ++ rest) (xml_character c ++ whole)
put_three c rest whole big low first second after a b =
    let last : value_byte (224 + c / 4096) (128 + c / 64 % 64) (128 + c % 64) ≡ (128 + c % 64) ∷ [] = plain_byte (224 + c / 4096) (128 + c / 64 % 64) (128 + c % 64) (omega arith) (three_plain c low first second) in
    ap (λ (l : List ℕ). value_after a b (l ++ rest)) (three c big low)
    ∙ three_bytes (224 + c / 4096) (128 + c / 64 % 64) (128 + c % 64) rest whole ((128 + c % 64) ∷ []) (omega arith) (omega arith) last after a b
    ∙ ap (λ (l : List ℕ). l ++ whole) (sym (other_character c (omega arith) first second ∙ three c big low))

put_four : (c : ℕ) (rest whole : List ℕ) → 65536 ≤ c → Goes rest whole → Goes (encode_utf8 c ++ rest) (xml_character c ++ whole)
put_four c rest whole big after a b =
    ap (λ (l : List ℕ). value_after a b (l ++ rest)) (four c big)
    ∙ four_bytes (240 + c / 262144) (128 + c / 4096 % 64) (128 + c / 64 % 64) (128 + c % 64) rest whole (omega arith) (omega arith) (omega arith) (omega arith) (omega arith) after a b
    ∙ ap (λ (l : List ℕ). l ++ whole) (sym (other_character c (omega arith) (λ e. omega arith) (λ e. omega arith) ∙ four c big))

put_low_end : (rest whole : List ℕ) → Goes rest whole → Goes (encode_utf8 65534 ++ rest) (xml_character 65534 ++ whole)
unfolding encode_utf8 xml_character value_byte
put_low_end rest whole after a b = three_bytes 239 191 190 rest whole (189 ∷ []) (omega arith) (omega arith) refl after a b

put_high_end : (rest whole : List ℕ) → Goes rest whole → Goes (encode_utf8 65535 ++ rest) (xml_character 65535 ++ whole)
unfolding encode_utf8 xml_character value_byte
put_high_end rest whole after a b = three_bytes 239 191 191 rest whole (189 ∷ []) (omega arith) (omega arith) refl after a b

put_middle : (c : ℕ) (rest whole : List ℕ) → 2048 ≤ c → c < 65536 → (c ≡ 65534) ⊎ (c ≡ 65534 → ⊥) → (c ≡ 65535) ⊎ (c ≡ 65535 → ⊥) → Goes rest whole → Goes (encode_utf8 c ++ rest) (xml_character c ++ whole)
put_middle c rest whole big low (inl is) second after = subst (λ (n : ℕ). Goes (encode_utf8 n ++ rest) (xml_character n ++ whole)) (sym is) (put_low_end rest whole after)
put_middle c rest whole big low (inr first) (inl is) after = subst (λ (n : ℕ). Goes (encode_utf8 n ++ rest) (xml_character n ++ whole)) (sym is) (put_high_end rest whole after)
put_middle c rest whole big low (inr first) (inr second) after = put_three c rest whole big low first second after

put_wide : (c : ℕ) (rest whole : List ℕ) → 2048 ≤ c → (c < 65536) ⊎ (65536 ≤ c) → Goes rest whole → Goes (encode_utf8 c ++ rest) (xml_character c ++ whole)
put_wide c rest whole big (inl low) after = put_middle c rest whole big low (cases_eq c 65534) (cases_eq c 65535) after
put_wide c rest whole big (inr high) after = put_four c rest whole high after

put_several : (c : ℕ) (rest whole : List ℕ) → 128 ≤ c → (c < 2048) ⊎ (2048 ≤ c) → Goes rest whole → Goes (encode_utf8 c ++ rest) (xml_character c ++ whole)
put_several c rest whole big (inl low) after = put_two c rest whole big low after
put_several c rest whole big (inr high) after = put_wide c rest whole high (cases_lt c 65536) after

put_character : (c : ℕ) (rest whole : List ℕ) → (c < 128) ⊎ (128 ≤ c) → Goes rest whole → Goes (encode_utf8 c ++ rest) (xml_character c ++ whole)
put_character c rest whole (inl low) after = put_one c rest whole low after
put_character c rest whole (inr high) after = put_several c rest whole high (cases_lt c 2048) after

-- ## Names

characters_go : (characters : List ℕ) → Goes (encode_utf8_all characters) (flat_map xml_character characters)
unfolding value_after
characters_go [] a b = refl
characters_go (c ∷ characters) a b =
    put_character c (encode_utf8_all characters) (flat_map xml_character characters) (cases_lt c 128) (characters_go characters) a b ∙ sym (flat_map-cons xml_character c characters)

pub value_of_characters : (name characters : List ℕ) → name ≡ encode_utf8_all characters → value name ≡ flat_map xml_character characters
value_of_characters name characters is = ap value is ∙ characters_go characters 0 0
