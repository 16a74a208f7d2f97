-- What is read at ranges of bytes.
use Rattle.std.specs.Prelude.{◌≡◌, ℕ, zero, suc, ◌+◌, ◌/◌, ◌≤◌, List, [], ◌∷◌, ◌==◌, length, take, drop, Option, Some, None, if◌then◌else◌}
use Rattle.std.specs.Int.{w64, from_le_bytes}
use Rattle.std.specs.Option.{option_map_or}
use Rattle.base_bytes.specs.Reading.{counted_at, number_at, text_at}
use Rattle.base_bytes.specs.declared.ranges.ByteRange.{ByteRange}

-- the first byte, and the bytes after it
abbrev pub byte_at : List ℕ → Option (ℕ × List ℕ)
byte_at [] = None
byte_at (byte ∷ rest) = Some (byte, rest)

-- what was read, where no byte follows
abbrev pub read_whole : {X : Type 0} → X × List ℕ → Option X
read_whole read = if length read.1 == 0 then Some read.0 else None

-- the bytes of a range
abbrev pub ranged : List ℕ → ByteRange → List ℕ
ranged bytes range = take range.count (drop range.start bytes)

-- the texts that are counted from the start of a range; none where they can't be read
abbrev pub counted_words : List ℕ → ByteRange → List (List ℕ)
counted_words bytes range = option_map_or (λ read. read.0) (counted_at text_at (drop range.start bytes)) []

-- the numbers of eight bytes that are counted from the start of a range; none where they can't be read
abbrev pub counted_numbers : List ℕ → ByteRange → List ℕ
counted_numbers bytes range = option_map_or (λ read. read.0) (counted_at (number_at w64) (drop range.start bytes)) []

-- where a range ends
abbrev pub range_end : ByteRange → ℕ
range_end range = range.start + range.count

-- A range that was found from an offset on, seen by view, is what is read there, and reading goes on after it.
abbrev pub IsRangeAt : {Y : Type 0} → ℕ → (ByteRange → Y) → List ℕ → Option ByteRange → Option (Y × List ℕ) → Type 0
IsRangeAt at view bytes None read = read ≡ None
IsRangeAt at view bytes (Some range) read = (read ≡ Some (view range, drop (range_end range) bytes)) × (at ≤ range_end range) × (range_end range ≤ length bytes)

-- What was found from an offset on, with the offset after it, seen by view, is what is read there, and reading goes on after it.
abbrev pub IsReadAt : {X Y : Type 0} → ℕ → (X → Y) → List ℕ → Option (X × ℕ) → Option (Y × List ℕ) → Type 0
IsReadAt at view bytes None read = read ≡ None
IsReadAt at view bytes (Some found) read = (read ≡ Some (view found.0, drop found.1 bytes)) × (at ≤ found.1) × (found.1 ≤ length bytes)

-- the given number of numbers from the start of bytes, each of eight bytes
unfoldable pub long_numbers : ℕ → List ℕ → List ℕ
long_numbers zero bytes = []
long_numbers (suc n) bytes = from_le_bytes w64 (take 8 bytes) ∷ long_numbers n (drop 8 bytes)

-- all of the numbers in some bytes
abbrev pub all_numbers : List ℕ → List ℕ
all_numbers bytes = long_numbers (length bytes / 8) bytes
