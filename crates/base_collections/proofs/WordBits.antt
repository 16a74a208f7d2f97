-- Bits of a list of words, after a word was written, the next that is set, and those of two lists together.
use Rattle.std.proofs.Common.{◌≡◌, ◌≢◌, ℕ, ◌+◌, ◌-◌, ◌*◌, ◌^◌, ◌/◌, ◌%◌, ◌<◌, ◌==◌, ◌||◌, ◌≤◌, max, true, false, zero, suc, List, length, get_or, replicate, Some, None, refl, sym, ap, ◌∙◌, arith, inl, inr}
use Rattle.std.proofs.Math.ListN.{set}
use Rattle.std.specs.Prelude.{Option}
use Rattle.std.specs.Int.{bit_at}
use Rattle.std.specs.Int.Bits.{bit_or}
use Rattle.std.proofs.Math.Nat.{div-div-eq-div-mul}
use Rattle.std.proofs.lemmas.Nat.{pow-add}
use Rattle.std.proofs.lemmas.Bool.{cases_eq, cases_lt}
use Rattle.std.proofs.lemmas.List.{get_or-set_same, get_or-set_other, get_or_past}
use Rattle.std.proofs.lemmas.Grind.{get_or-set_at}
use Rattle.std.proofs.lemmas.Nat.Bits.{bit_at-zero, bit_at-lt, bit_at_or, same_from_bits}
use Rattle.base_collections.specs.Positions.{is_set, IsNext}

pub has_from_bit : (words : List ℕ) (at : ℕ) → bit_at (get_or words (at / 64) 0) (at % 64) ≡ 1 → is_set words at ≡ true
unfolding is_set
has_from_bit words at bit = ap (λ b. b == 1) bit

pub has_not_from_bit : (words : List ℕ) (at : ℕ) → bit_at (get_or words (at / 64) 0) (at % 64) ≡ 0 → is_set words at ≡ false
unfolding is_set
has_not_from_bit words at bit = ap (λ b. b == 1) bit

pub has_not_in_zero : (words : List ℕ) (at : ℕ) → get_or words (at / 64) 0 ≡ 0 → is_set words at ≡ false
has_not_in_zero words at word = has_not_from_bit words at (ap (λ w. bit_at w (at % 64)) word ∙ bit_at-zero (at % 64))

-- the bit of a position after its word was written
pub has_written : (words : List ℕ) (at new : ℕ) → at / 64 < length words → bit_at new (at % 64) ≡ 1 → is_set (set words (at / 64) new) at ≡ true
has_written words at new within bit = has_from_bit (set words (at / 64) new) at (ap (λ w. bit_at w (at % 64)) (get_or-set_same words (at / 64) new 0 within) ∙ bit)

pub has_cleared : (words : List ℕ) (at new : ℕ) → at / 64 < length words → bit_at new (at % 64) ≡ 0 → is_set (set words (at / 64) new) at ≡ false
has_cleared words at new within bit = has_not_from_bit (set words (at / 64) new) at (ap (λ w. bit_at w (at % 64)) (get_or-set_same words (at / 64) new 0 within) ∙ bit)

bits_other : (words : List ℕ) (at new other : ℕ) → at / 64 < length words → other ≢ at → ((i : ℕ) → i < 64 → i ≢ at % 64 → bit_at new i ≡ bit_at (get_or words (at / 64) 0) i)
    → bit_at (get_or (set words (at / 64) new) (other / 64) 0) (other % 64) ≡ bit_at (get_or words (other / 64) 0) (other % 64)
bits_other words at new other within apart same =
    elim (cases_eq (other / 64) (at / 64)) [
      | inl e ↦
          let differ : other % 64 ≢ at % 64 = λ d. apart (omega arith) in
          let low : other % 64 < 64 = omega arith in
          ap (λ w. bit_at w (other % 64)) (get_or-set_at words (at / 64) (other / 64) new 0 e within)
          ∙ same (other % 64) low differ ∙ ap (λ k. bit_at (get_or words k 0) (other % 64)) (sym e)
      | inr ne ↦ ap (λ w. bit_at w (other % 64)) (get_or-set_other words (at / 64) (other / 64) new 0 ne)
    ]

pub has_other : (words : List ℕ) (at new other : ℕ) → at / 64 < length words → other ≢ at → ((i : ℕ) → i < 64 → i ≢ at % 64 → bit_at new i ≡ bit_at (get_or words (at / 64) 0) i)
    → is_set (set words (at / 64) new) other ≡ is_set words other
unfolding is_set
has_other words at new other within apart same = ap (λ b. b == 1) (bits_other words at new other within apart same)

get_or_zeros : (n at : ℕ) → get_or (replicate {A = ℕ} n 0) at 0 ≡ 0
get_or_zeros zero at = refl
get_or_zeros (suc n) zero = refl
get_or_zeros (suc n) (suc at) = get_or_zeros n at

-- words that are all 0
pub has_not_in_none : (n at : ℕ) → is_set (replicate {A = ℕ} n 0) at ≡ false
has_not_in_none n at = has_not_in_zero (replicate {A = ℕ} n 0) at (get_or_zeros n (at / 64))

-- no bit is set in words that are 0 from one on
no_more : (words : List ℕ) (start : ℕ) → ((k : ℕ) → start ≤ k → k < length words → get_or words k 0 ≡ 0) → (at : ℕ) → start * 64 ≤ at → is_set words at ≡ false
no_more words start none at le =
    has_not_in_zero words at (elim (cases_lt (at / 64) (length words)) [
      | inl l ↦ none (at / 64) (omega arith) l
      | inr l ↦ get_or_past words (at / 64) 0 l
    ])

pub none_next : (words : List ℕ) (start : ℕ) → ((k : ℕ) → start ≤ k → k < length words → get_or words k 0 ≡ 0) → IsNext (is_set words) (start * 64) None
none_next words start none = no_more words start none

-- the lowest bit of the first word from one on that isn't 0
pub next_found : (words : List ℕ) (start word low : ℕ) → start ≤ word → ((k : ℕ) → start ≤ k → k < word → get_or words k 0 ≡ 0) → low < 64 → bit_at (get_or words word 0) low ≡ 1
    → ((i : ℕ) → i < low → bit_at (get_or words word 0) i ≡ 0) → IsNext (is_set words) (start * 64) (Some (word * 64 + low))
next_found words start word low from none within is below =
    let high : (word * 64 + low) / 64 ≡ word = omega arith in
    let rest : (word * 64 + low) % 64 ≡ low = omega arith in (
      omega arith,
      has_from_bit words (word * 64 + low) (ap (λ k. bit_at (get_or words k 0) ((word * 64 + low) % 64)) high ∙ ap (λ i. bit_at (get_or words word 0) i) rest ∙ is),
      λ at le lt. elim (cases_lt (at / 64) word) [
        | inl l ↦ has_not_in_zero words at (none (at / 64) (omega arith) l)
        | inr l ↦
            let e : at / 64 ≡ word = omega arith in
            let under : at % 64 < low = omega arith in
            has_not_from_bit words at (ap (λ k. bit_at (get_or words k 0) (at % 64)) e ∙ below (at % 64) under)
      ],
    )

-- ## The bits of a word from one on

-- a bit of a word that was moved down
pub bit_at-down : (word by i : ℕ) → bit_at (word / 2 ^ by) i ≡ bit_at word (by + i)
bit_at-down word by i = ap (λ (n : ℕ). n % 2) (div-div-eq-div-mul word (2 ^ by) (2 ^ i) ∙ ap (λ (n : ℕ). word / n) (sym (pow-add 2 by i)))

-- the lowest bit from one on in the same word
pub next_in_word : (words : List ℕ) (from low : ℕ) → from / 64 < length words → from % 64 + low < 64 → bit_at (get_or words (from / 64) 0) (from % 64 + low) ≡ 1
    → ((i : ℕ) → i < low → bit_at (get_or words (from / 64) 0) (from % 64 + i) ≡ 0) → IsNext (is_set words) from (Some (from + low))
next_in_word words from low within fits is below =
    let high : (from + low) / 64 ≡ from / 64 = omega arith in
    let rest : (from + low) % 64 ≡ from % 64 + low = omega arith in (
      omega arith,
      has_from_bit words (from + low) (ap (λ k. bit_at (get_or words k 0) ((from + low) % 64)) high ∙ ap (λ i. bit_at (get_or words (from / 64) 0) i) rest ∙ is),
      λ at le lt.
          let e : at / 64 ≡ from / 64 = omega arith in
          let index : at % 64 ≡ from % 64 + (at - from) = omega arith in
          has_not_from_bit words at (ap (λ k. bit_at (get_or words k 0) (at % 64)) e ∙ ap (λ i. bit_at (get_or words (from / 64) 0) i) index ∙ below (at - from) (omega arith)),
    )

-- where the word has no bit from there on, the next is in the words after it
pub next_later : (words : List ℕ) (from : ℕ) (o : Option ℕ) → from / 64 < length words → ((i : ℕ) → i < 64 - from % 64 → bit_at (get_or words (from / 64) 0) (from % 64 + i) ≡ 0) → IsNext (is_set words) ((from / 64 + 1) * 64) o
    → IsNext (is_set words) from o
next_later words from None within none is = λ at le. elim (cases_lt at ((from / 64 + 1) * 64)) [
  | inl l ↦
      let e : at / 64 ≡ from / 64 = omega arith in
      let index : at % 64 ≡ from % 64 + (at - from) = omega arith in
      has_not_from_bit words at (ap (λ k. bit_at (get_or words k 0) (at % 64)) e ∙ ap (λ i. bit_at (get_or words (from / 64) 0) i) index ∙ none (at - from) (omega arith))
  | inr l ↦ is at l
]
next_later words from (Some next) within none is = (
  omega (arith, is.0),
  is.1,
  λ at le lt. elim (cases_lt at ((from / 64 + 1) * 64)) [
    | inl l ↦
        let e : at / 64 ≡ from / 64 = omega arith in
        let index : at % 64 ≡ from % 64 + (at - from) = omega arith in
        has_not_from_bit words at (ap (λ k. bit_at (get_or words k 0) (at % 64)) e ∙ ap (λ i. bit_at (get_or words (from / 64) 0) i) index ∙ none (at - from) (omega arith))
    | inr l ↦ is.2 at l lt
  ],
)

pub none_past : (words : List ℕ) (from : ℕ) → length words ≤ from / 64 → IsNext (is_set words) from None
none_past words from past = λ at le. has_not_in_zero words at (get_or_past words (at / 64) 0 (omega arith))

-- ## Two sets together

joined : (a b : ℕ) → a < 2 → b < 2 → (max a b == 1) ≡ ((a == 1) || (b == 1))
joined zero zero p q = refl
joined zero (suc zero) p q = refl
joined (suc zero) zero p q = refl
joined (suc zero) (suc zero) p q = refl
joined (suc (suc a)) b p q = absurd (omega arith)
joined a (suc (suc b)) p q = absurd (omega arith)

pub set_in_both : (words old other : List ℕ) → ((k : ℕ) → get_or words k 0 ≡ bit_or (get_or old k 0) (get_or other k 0)) → (at : ℕ) → is_set words at ≡ (is_set old at || is_set other at)
unfolding is_set
set_in_both words old other each at =
    let w : ℕ = get_or old (at / 64) 0 in
    let v : ℕ = get_or other (at / 64) 0 in
    ap (λ n. bit_at n (at % 64) == 1) (each (at / 64)) ∙ ap (λ n. n == 1) (bit_at_or w v (at % 64))
    ∙ joined (bit_at w (at % 64)) (bit_at v (at % 64)) (bit_at-lt w (at % 64)) (bit_at-lt v (at % 64))

bit_or-zero : (n : ℕ) → bit_or n 0 ≡ n
bit_or-zero n = same_from_bits (bit_or n 0) n (λ i. bit_at_or n 0 i ∙ ap (max (bit_at n i)) (bit_at-zero i) ∙ (omega arith))

-- words that are joined up to where both end
pub joined_words : (words old other : List ℕ) (end : ℕ) → length old ≤ end → length other ≤ end → ((k : ℕ) → k < end → get_or words k 0 ≡ bit_or (get_or old k 0) (get_or other k 0))
    → ((k : ℕ) → end ≤ k → get_or words k 0 ≡ get_or old k 0) → (k : ℕ) → get_or words k 0 ≡ bit_or (get_or old k 0) (get_or other k 0)
joined_words words old other end short_old short_other done rest k = elim (cases_lt k end) [
  | inl l ↦ done k l
  | inr l ↦ rest k l ∙ sym (ap (bit_or (get_or old k 0)) (get_or_past other k 0 (omega arith)) ∙ bit_or-zero (get_or old k 0))
]

-- the lowest bit of a word that was moved down
pub next_down : (words : List ℕ) (from moved low : ℕ) → from / 64 < length words → ((i : ℕ) → bit_at moved i ≡ bit_at (get_or words (from / 64) 0) (from % 64 + i)) → ((i : ℕ) → 64 ≤ from % 64 + i → bit_at moved i ≡ 0)
    → bit_at moved low ≡ 1 → ((i : ℕ) → i < low → bit_at moved i ≡ 0) → IsNext (is_set words) from (Some (from + low))
next_down words from moved low within down above is below =
    let short : from % 64 + low < 64 = elim (cases_lt (from % 64 + low) 64) [
      | inl l ↦ l
      | inr l ↦ absurd (omega (arith, above low l))
    ] in
    next_in_word words from low within short (sym (down low) ∙ is) (λ i lt. sym (down i) ∙ below i lt)

-- a word that has no bit left after it was moved down
pub later_down : (words : List ℕ) (from moved : ℕ) (o : Option ℕ) → from / 64 < length words → ((i : ℕ) → bit_at moved i ≡ bit_at (get_or words (from / 64) 0) (from % 64 + i)) → moved ≡ 0
    → IsNext (is_set words) ((from / 64 + 1) * 64) o → IsNext (is_set words) from o
later_down words from moved o within down empty is = next_later words from o within (λ i lt. sym (down i) ∙ ap (λ n. bit_at n i) empty ∙ bit_at-zero i) is
