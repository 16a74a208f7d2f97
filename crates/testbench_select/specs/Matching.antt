-- Which names a pattern matches: a name matches if it can be cut into one part for each pattern part, in order.
use Rattle.std.specs.Prelude.{◌≡◌, ℕ, ◌≤◌, nat_le, Bool, not, ◌&&◌, if◌then◌else◌, IsTrue, List, [], ◌∷◌, length, take, drop}
use Rattle.std.specs.List.{list_any}
use Rattle.testbench_select.specs.declared.pattern.ByteRange.{ByteRange}
use Rattle.testbench_select.specs.declared.pattern.PatternPart.{PatternPart}
use Rattle.testbench_select.specs.declared.pattern.PatternPart.TheVariants.{AnyBytes, AnyByte, Byte, OneOf}

-- no byte is in a range whose first is above its last
abbrev pub is_in_range : ℕ → ByteRange → Bool
is_in_range byte range = nat_le range.first byte && nat_le byte range.last

-- a byte is in one of the ranges, or in none where the set is negated
abbrev pub is_in_set : Bool → List ByteRange → ℕ → Bool
is_in_set negated ranges byte = if negated then not (list_any (is_in_range byte) ranges) else list_any (is_in_range byte) ranges

-- the part of a name that a pattern part stands for
abbrev pub StandsFor : PatternPart → List ℕ → Type 0
StandsFor AnyBytes part = Unit {0}
StandsFor AnyByte part = length part ≡ 1
StandsFor (Byte byte) part = part ≡ byte ∷ []
StandsFor (OneOf negated ranges) part = (byte : ℕ) × (part ≡ byte ∷ []) × IsTrue (is_in_set negated ranges byte)

-- the name is a part for each pattern part, one after the other
abbrev pub Matches : List PatternPart → List ℕ → Type 0
Matches [] name = name ≡ []
Matches (pattern_part ∷ pattern_parts) name = (count : ℕ) × (count ≤ length name) × StandsFor pattern_part (take count name) × Matches pattern_parts (drop count name)
