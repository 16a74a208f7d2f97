-- Where a word is in the table of reserved words.
use Rattle.vhdl_spec.specs.Words.{is_reserved, lower_case, reserved_words}
use Rattle.std.specs.Prelude.{◌≡◌, ◌<◌, zero, suc, false, [], slice_index_or, ℕ, ◌+◌, ◌-◌, ◌*◌, ◌/◌, ◌%◌, List, length, slice_index, bit_or}

-- a byte of a word; a letter counts as its lower case
abbrev pub without_case : List ℕ → ℕ → ℕ
without_case word at = bit_or (slice_index word at) 32

-- the index of a word in the table of reserved words, from its first, middle and last byte and its length
unfoldable pub bucket_of : List ℕ → ℕ
bucket_of word =
    (115 * without_case word 0 + 175 * without_case word (length word / 2) + 174 * without_case word (length word - 1) + 74 * (length word % 64)) % 1024

-- the number of a reserved word, counted from 1, or 0 for another word
abbrev pub IsNumberOf : List ℕ → ℕ → Type 0
IsNumberOf word zero = is_reserved word ≡ false
IsNumberOf word (suc number) = (number < 115) × (lower_case word ≡ slice_index_or reserved_words number [])
