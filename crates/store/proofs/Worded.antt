-- Words after their number, as a walk over them passes them.
use Rattle.std.proofs.Common.{◌≡◌, ℕ, ◌-◌, ◌+◌, ◌^◌, ◌<◌, ◌≤◌, List, [], ◌∷◌, ◌++◌, length, take, Some, None, refl, sym, ap, ◌∙◌, arith, length-append}
use Rattle.std.specs.Int.{w32}
use Rattle.std.specs.List.{flat_map}
use Rattle.std.proofs.lemmas.List.{take_at}
use Rattle.base.specs.Bytes.{number_bytes, text_bytes}
use Rattle.base.specs.Names.{FitsCommand}
use Rattle.base_bytes.specs.Reading.{AreBytes, counted_at, many_at, number_at, text_at}
use Rattle.base_bytes.proofs.Fields.{text_takes}
use Rattle.base_bytes.proofs.Many.{begins, counted_take, goes_on, is_done, no_count, stops, with_prefix}
use Rattle.store_codec.specs.Forms.{command_bytes}
use Rattle.store.specs.Words.{first_words}

-- Some words were read. Reading the other `count - i` words from the bytes that are left completes the reading of all bytes.
pub record ArePassed (bytes : List ℕ) (count i : ℕ) (left : List ℕ) : Type 0 where
  pub words : List (List ℕ)
  pub so_far : with_prefix words (many_at text_at (count - i) left) ≡ counted_at text_at bytes

no_command : (words : List (List ℕ)) → words ≡ [] → FitsCommand words → ⊥
no_command words e fits = omega (arith, ap length e, fits.count.at_least)

-- a command is there
pub some_count : (bytes : List ℕ) → number_at w32 bytes ≡ None → FitsCommand (first_words bytes) → ⊥
some_count bytes e fits = no_command (first_words bytes) (rw (no_count text_at bytes e) refl) fits

pub passed_none : (bytes left : List ℕ) (count : ℕ) → number_at w32 bytes ≡ Some (count, left) → ArePassed bytes count 0 left
passed_none bytes left count e = record { words = []; so_far = begins text_at bytes count left e }

pub passed_more : (bytes left after word : List ℕ) (count i : ℕ) → ArePassed bytes count i left → i < count → text_at left ≡ Some (word, after) → ArePassed bytes count (i + 1) after
passed_more bytes left after word count i are low e = record {
  words = are.words ++ word ∷ [];
  so_far = goes_on text_at are.words count i left word after (counted_at text_at bytes) low e are.so_far;
}

pub some_word : (bytes left : List ℕ) (count i : ℕ) → ArePassed bytes count i left → i < count → text_at left ≡ None → FitsCommand (first_words bytes) → ⊥
some_word bytes left count i are low e fits = no_command (first_words bytes) (rw (stops text_at are.words count i left (counted_at text_at bytes) low e are.so_far) refl) fits

abbrev TextFits : List ℕ → Type 0
TextFits text = length text < 2 ^ 32

-- once all words are read, the bytes are the encoding of these words, followed by the bytes that are left
pub passed_all : (bytes left : List ℕ) (count i : ℕ) → AreBytes bytes → ArePassed bytes count i left → count ≤ i → bytes ≡ command_bytes (first_words bytes) ++ left
unfolding command_bytes
passed_all bytes left count i fits are done =
    let whole : counted_at text_at bytes ≡ Some (are.words, left) = is_done text_at are.words count i left (counted_at text_at bytes) done are.so_far in
    let taken = counted_take text_at text_bytes TextFits text_takes bytes are.words left fits whole in
    let words : first_words bytes ≡ are.words = rw whole refl in
    taken.0.parts ∙ ap (λ (ws : List (List ℕ)). (number_bytes (length ws) ++ flat_map text_bytes ws) ++ left) (sym words)

-- what is before the rest
pub before_rest : (bytes spelled left : List ℕ) (n : ℕ) → bytes ≡ spelled ++ left → n ≡ length bytes - length left → take n bytes ≡ spelled
before_rest bytes spelled left n e is =
    let size : length spelled ≡ n = omega (arith, is, ap length e, length-append spelled left) in
    ap (λ (bs : List ℕ). take n bs) e ∙ take_at spelled left n size
