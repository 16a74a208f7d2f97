-- What bytes mean as a pattern of names. Every text is a pattern.
use Rattle.std.specs.Prelude.{ℕ, zero, suc, ◌+◌, ◌==◌, Bool, true, false, if◌then◌else◌, List, [], ◌∷◌, take, Option, Some, None, option_map}
use Rattle.std.specs.Option.{unwrap_or}
use Rattle.testbench_select.specs.declared.pattern.ByteRange.{ByteRange}
use Rattle.testbench_select.specs.declared.pattern.PatternPart.{PatternPart}
use Rattle.testbench_select.specs.declared.pattern.PatternPart.TheVariants.{AnyBytes, AnyByte, Byte, OneOf}

-- `*`, which stands for any number of bytes
abbrev pub star_byte : ℕ
star_byte = 42

-- `?`, which stands for any one byte
abbrev pub question : ℕ
question = 63

-- `[`, which opens a set
abbrev pub opening : ℕ
opening = 91

-- `!`, which negates a set where it comes first in it
abbrev pub negation : ℕ
negation = 33

-- `-`, which stands between the ends of a range in a set
abbrev pub dash_byte : ℕ
dash_byte = 45

-- `]`, which closes a set unless it is the first byte in it
abbrev pub closing : ℕ
closing = 93

-- ## Sets

-- a byte that stands for itself
abbrev pub one_byte : ℕ → ByteRange
one_byte byte = record { first = byte; last = byte }

-- What is in a set, read from the left: `x-y` with both ends there stands for the bytes from x to y, and any other byte for
-- itself.
unfoldable pub ranges_of : List ℕ → List ByteRange
ranges_of [] = []
ranges_of (first ∷ []) = one_byte first ∷ []
ranges_of (first ∷ second ∷ []) = one_byte first ∷ one_byte second ∷ []
ranges_of (first ∷ second ∷ last ∷ bytes) =
    if second == dash_byte then record { first = first; last = last } ∷ ranges_of bytes else one_byte first ∷ ranges_of (second ∷ last ∷ bytes)

-- how many bytes come before the first `]`
unfoldable pub before_closing : List ℕ → Option ℕ
before_closing [] = None
before_closing (byte ∷ bytes) = if byte == closing then Some 0 else option_map suc (before_closing bytes)

-- how many bytes are in a set: those before the first `]` that isn't the first of them
unfoldable pub set_length : List ℕ → Option ℕ
set_length [] = None
set_length (byte ∷ bytes) = option_map suc (before_closing bytes)

-- the set that ends at the closing `]` of these bytes, and how many bytes it takes, counting the `taken` bytes before these
unfoldable pub set_after : Bool → ℕ → List ℕ → Option (PatternPart × ℕ)
set_after negated taken bytes = option_map (λ count. (OneOf negated (ranges_of (take count bytes)), taken + count + 1)) (set_length bytes)

-- the set that a `[` before these bytes opens, if it opens one; a `!` that follows the `[` negates it
unfoldable pub opened_set : List ℕ → Option (PatternPart × ℕ)
opened_set [] = None
opened_set (byte ∷ bytes) = if byte == negation then set_after true 1 bytes else set_after false 0 (byte ∷ bytes)

-- ## Pattern parts

-- the pattern part that a byte begins, and how many of the bytes after it belong to it; a `[` that opens no set is itself
unfoldable pub first_pattern_part : ℕ → List ℕ → PatternPart × ℕ
first_pattern_part byte bytes =
    if byte == star_byte then (AnyBytes, 0) else (if byte == question then (AnyByte, 0) else (if byte == opening then unwrap_or (opened_set bytes) (Byte opening, 0) else (Byte byte, 0)))

-- the pattern parts of bytes, where the first `taken` bytes belong to an earlier pattern part
unfoldable pub pattern_parts_after : ℕ → List ℕ → List PatternPart
pattern_parts_after taken [] = []
pattern_parts_after (suc taken) (byte ∷ bytes) = pattern_parts_after taken bytes
pattern_parts_after zero (byte ∷ bytes) = (first_pattern_part byte bytes).0 ∷ pattern_parts_after (first_pattern_part byte bytes).1 bytes

-- the pattern parts of a pattern
abbrev pub pattern_parts_of : List ℕ → List PatternPart
pattern_parts_of bytes = pattern_parts_after 0 bytes
