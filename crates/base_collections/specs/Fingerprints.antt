-- The fingerprint of a text.
use Rattle.std.specs.Prelude.{ℕ, zero, suc, ◌+◌, ◌-◌, ◌*◌, ◌/◌, ◌%◌, ◌^◌, List, [], ◌∷◌, length, nat_lt, slice_index, fold, bit_xor, if◌then◌else◌}
use Rattle.std.specs.Int.{w64, from_le_bytes}
use Rattle.base_collections.specs.declared.fingerprints.TheConstants.{MULTIPLIER}

-- a fingerprint with one more number mixed in
unfoldable pub mixed : ℕ → ℕ → ℕ
mixed fingerprint word = bit_xor fingerprint word * MULTIPLIER % 2 ^ 64

-- the number of eight bytes from an offset on
unfoldable pub word_at : List ℕ → ℕ → ℕ
word_at text at = from_le_bytes w64 (slice_index text at ∷ slice_index text (at + 1) ∷ slice_index text (at + 2) ∷ slice_index text (at + 3) ∷ slice_index text (at + 4) ∷ slice_index text (at + 5) ∷ slice_index text (at + 6) ∷ slice_index text (at + 7) ∷ [])

-- a fingerprint with the 16 bytes from an offset on
unfoldable pub with_segment : List ℕ → ℕ → ℕ → ℕ
with_segment text fingerprint at = mixed (mixed fingerprint (word_at text at)) (word_at text (at + 8))

-- where a segment begins, of 16 that are spread evenly
unfoldable pub segment_start : ℕ → ℕ → ℕ
segment_start len segment = segment * ((len - 16) / 15)

-- the fingerprint of a text's length and the given number of its segments, from the first on
unfoldable pub fingerprinted : List ℕ → ℕ → ℕ
fingerprinted text zero = length text
fingerprinted text (suc segment) = with_segment text (fingerprinted text segment) (segment_start (length text) segment)

-- the length, and all bytes
unfoldable pub fingerprint_by_bytes : List ℕ → ℕ
fingerprint_by_bytes text = fold mixed (length text) text

-- the fingerprint of a text: of all bytes where there are fewer than 16, and else of 16 segments
unfoldable pub fingerprint_of : List ℕ → ℕ
fingerprint_of text = if nat_lt (length text) 16 then fingerprint_by_bytes text else fingerprinted text 16
