-- Pattern parts that stand for one byte each, one after the other.
use Rattle.std.specs.Prelude.{◌≡◌, ◌↔◌, ℕ, ◌<◌, ◌≤◌, Bool, true, false, ◌&&◌, ◌==◌, List, [], ◌∷◌, length, drop, All}
use Rattle.std.specs.Borrow.{Bor}
use Rattle.testbench_select.specs.declared.pattern.PatternPart.{PatternPart}
use Rattle.testbench_select.specs.declared.pattern.PatternPart.TheVariants.{AnyBytes, AnyByte, Byte, OneOf}
use Rattle.testbench_select.specs.Matching.{is_in_set, Matches}
use Rattle.testbench_select.specs.declared.reading.Found.{Found}
use Rattle.testbench_select.specs.Fits.{fits_pattern_parts}

-- a pattern part that was found, and how many bytes after its first one belong to it
abbrev pub found_pattern_part : Found → PatternPart × ℕ
found_pattern_part found = (found.pattern_part, found.taken)

-- the pattern part is `*`, which stands for any number of bytes
abbrev pub is_any_bytes : PatternPart → Bool
is_any_bytes AnyBytes = true
is_any_bytes AnyByte = false
is_any_bytes (Byte byte) = false
is_any_bytes (OneOf negated ranges) = false

-- whether a pattern part may stand for a byte
abbrev pub is_right : PatternPart → ℕ → Bool
is_right AnyBytes byte = true
is_right AnyByte byte = true
is_right (Byte other) byte = other == byte
is_right (OneOf negated ranges) byte = is_in_set negated ranges byte

-- the relation `Matches`, as a test
abbrev pub is_match : List PatternPart → List ℕ → Bool
is_match pattern_parts name = fits_pattern_parts is_any_bytes is_right pattern_parts name

-- whether a name begins with a byte for each of these pattern parts, in order
unfoldable pub has_prefix : List PatternPart → List ℕ → Bool
has_prefix [] name = true
has_prefix (pattern_part ∷ pattern_parts) [] = false
has_prefix (pattern_part ∷ pattern_parts) (byte ∷ bytes) = is_right pattern_part byte && has_prefix pattern_parts bytes

-- no pattern part stands for any bytes
abbrev pub AreSingle : List PatternPart → Type 0
AreSingle pattern_parts = All (λ pattern_part. is_any_bytes pattern_part ≡ false) pattern_parts

-- no pattern part is left, or the first one stands for any bytes
abbrev pub BeginsAnyBytes : List PatternPart → Type 0
BeginsAnyBytes [] = Unit {0}
BeginsAnyBytes (pattern_part ∷ pattern_parts) = pattern_part ≡ AnyBytes

-- from an offset on, and from none before it, a name begins with a byte for each of these pattern parts
pub record IsFirstIndex (pattern_parts : List PatternPart) (name : List ℕ) (at : ℕ) : Type 0 where
  pub within : at ≤ length name
  pub is : has_prefix pattern_parts (drop at name) ≡ true
  pub first : (before : ℕ) → before < at → has_prefix pattern_parts (drop before name) ≡ false

-- from no offset on does a name have a byte for each of these pattern parts
abbrev pub HasNoIndex : List PatternPart → List ℕ → Type 0
HasNoIndex pattern_parts name = (at : ℕ) → at ≤ length name → has_prefix pattern_parts (drop at name) ≡ false

-- The pattern parts and the name that remain after a `*` and the single-byte parts that follow it. No part remains, or the
-- first one is `*`; fewer parts remain than there were. They match the remaining name exactly if all parts match the whole
-- name.
pub record IsWhatRemains (others : List PatternPart) (name : List ℕ) (left : Bor (List PatternPart) × Bor (List ℕ)) : Type 0 where
  pub begins : BeginsAnyBytes left.0.now
  pub fewer : length left.0.now ≤ length others
  pub same : Matches left.0.now left.1.now ↔ Matches (AnyBytes ∷ others) name
