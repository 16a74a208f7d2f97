-- Words after their number, as a loop reads them.
use Rattle.std.proofs.Common.{◌≡◌, ℕ, ◌-◌, ◌+◌, ◌<◌, ◌≤◌, List, [], ◌∷◌, ◌++◌, length, take, drop, nat_lt, sum_by, Option, Some, None, refl, sym, ap, ◌∙◌, arith, length-append, length-drop}
use Rattle.std.specs.Int.{w32, byte_len, from_le_bytes}
use Rattle.std.specs.Option.{option_map_or}
use Rattle.std.proofs.lemmas.List.{take-append-drop}
use Rattle.std.proofs.lemmas.List.Sums.{fold_push}
use Rattle.base_bytes.specs.Reading.{counted_at, many_at, number_at, taken_at, text_at}
use Rattle.base_bytes.proofs.CountedWords.{words_at}
use Rattle.base_bytes.proofs.Fields.{bind_some, guard_some}
use Rattle.base_bytes.proofs.Many.{begins, goes_on, is_done, stops, with_prefix}

-- `i` of `count` words were read so far, and `P` holds of them.
pub record WordsSoFar (P : List (List ℕ) → Type 0) (bytes : List ℕ) (count i : ℕ) (left : List ℕ) : Type 0 where
  pub words : List (List ℕ)
  pub so_far : with_prefix words (many_at text_at (count - i) left) ≡ counted_at text_at bytes
  pub as_many : length words ≡ i
  pub holds : P words

pub words_begin : (P : List (List ℕ) → Type 0) (bytes left : List ℕ) (count : ℕ) → number_at w32 bytes ≡ Some (count, left) → P [] → WordsSoFar P bytes count 0 left
words_begin P bytes left count e p = record { words = []; so_far = begins text_at bytes count left e; as_many = refl; holds = p }

pub words_go_on : (P Q : List (List ℕ) → Type 0) (bytes left after word : List ℕ) (count i : ℕ) → WordsSoFar P bytes count i left → i < count → text_at left ≡ Some (word, after) → ((words : List (List ℕ)) → P words → Q (words ++ word ∷ [])) → WordsSoFar Q bytes count (i + 1) after
words_go_on P Q bytes left after word count i are low e next = record {
  words = are.words ++ word ∷ [];
  so_far = goes_on text_at are.words count i left word after (counted_at text_at bytes) low e are.so_far;
  as_many = omega (arith, are.as_many, length-append are.words (word ∷ []));
  holds = next are.words are.holds;
}

pub words_stop : (P : List (List ℕ) → Type 0) (bytes left : List ℕ) (count i : ℕ) → WordsSoFar P bytes count i left → i < count → text_at left ≡ None → words_at bytes ≡ []
words_stop P bytes left count i are low e =
    ap (λ (o : Option (List (List ℕ) × List ℕ)). option_map_or (λ r. r.0) o []) (stops text_at are.words count i left (counted_at text_at bytes) low e are.so_far)

pub words_end : (P : List (List ℕ) → Type 0) (bytes left : List ℕ) (count i : ℕ) → (are : WordsSoFar P bytes count i left) → count ≤ i → words_at bytes ≡ are.words
words_end P bytes left count i are done =
    ap (λ (o : Option (List (List ℕ) × List ℕ)). option_map_or (λ r. r.0) o []) (is_done text_at are.words count i left (counted_at text_at bytes) done are.so_far)

-- a word that was read is part of the bytes
pub word_fits : (left word after : List ℕ) → text_at left ≡ Some (word, after) → length word + length after ≤ length left
unfolding text_at
word_fits left word after e =
    let a = bind_some (number_at w32 left) (λ n. taken_at n.0 n.1) (word, after) e in
    let g = guard_some (nat_lt (length left) (byte_len w32)) (from_le_bytes w32 (take (byte_len w32) left), drop (byte_len w32) left) a.0 a.1 in
    let h = guard_some (nat_lt (length a.0.1) a.0.0) (take a.0.0 a.0.1, drop a.0.0 a.0.1) (word, after) a.2 in
    let rest : drop (byte_len w32) left ≡ a.0.1 = ap (λ (p : ℕ × List ℕ). p.1) g.1 in
    let word_is : take a.0.0 a.0.1 ≡ word = ap (λ (p : List ℕ × List ℕ). p.0) h.1 in
    let after_is : drop a.0.0 a.0.1 ≡ after = ap (λ (p : List ℕ × List ℕ). p.1) h.1 in
    let both : length word + length after ≡ length a.0.1 =
    ap (λ (n : ℕ). n + length after) (ap length (sym word_is)) ∙ ap (λ (n : ℕ). length (take a.0.0 a.0.1) + n) (ap length (sym after_is)) ∙ sym (length-append (take a.0.0 a.0.1) (drop a.0.0 a.0.1)) ∙ ap length (take-append-drop a.0.0 a.0.1) in
    omega (arith, both, ap length rest, length-drop (byte_len w32) left)

-- so is what follows a number
pub number_fits : (bytes : List ℕ) (n : ℕ) (left : List ℕ) → number_at w32 bytes ≡ Some (n, left) → length left ≤ length bytes
number_fits bytes n left e =
    let g = guard_some (nat_lt (length bytes) (byte_len w32)) (from_le_bytes w32 (take (byte_len w32) bytes), drop (byte_len w32) bytes) (n, left) e in
    omega (arith, ap length (ap (λ (p : ℕ × List ℕ). p.1) g.1), length-drop (byte_len w32) bytes)

pub sum_push : (words : List (List ℕ)) (word : List ℕ) → sum_by (λ word. length word) (words ++ word ∷ []) ≡ sum_by (λ word. length word) words + length word
sum_push words word = fold_push (λ n x. n + length x) 0 words word
