-- Names that begin with a byte for each of some pattern parts.
use Rattle.std.proofs.Common.{ℕ, ◌≡◌, ◌+◌, ◌<◌, ◌≤◌, ◌&&◌, false, true, List, [], ◌∷◌, length, drop, get_or, arith, ap, sym, refl, ◌∙◌}
use Rattle.std.proofs.lemmas.List.{drop_more, drop_all}
use Rattle.std.proofs.lemmas.Bool.{and_right}
use Rattle.testbench_select.specs.declared.pattern.PatternPart.{PatternPart}
use Rattle.testbench_select.specs.Segments.{is_right, has_prefix}

-- a name that is too short doesn't
pub too_short : (pattern_parts : List PatternPart) (name : List ℕ) → length name < length pattern_parts → has_prefix pattern_parts name ≡ false
unfolding has_prefix
too_short [] name short = absurd (omega (arith, short))
too_short (pattern_part ∷ pattern_parts) [] short = refl
too_short (pattern_part ∷ pattern_parts) (byte ∷ bytes) short = and_right (is_right pattern_part byte) (has_prefix pattern_parts bytes) (too_short pattern_parts bytes (omega (arith, short)))

-- one pattern part and one byte more
one_more : (pattern_parts : List PatternPart) (name : List ℕ) (i : ℕ) (pattern_part : PatternPart) → i < length pattern_parts → i < length name → pattern_part ≡ get_or pattern_parts i pattern_part
    → has_prefix (drop i pattern_parts) (drop i name) ≡ (is_right pattern_part (get_or name i 0) && has_prefix (drop (i + 1) pattern_parts) (drop (i + 1) name))
unfolding has_prefix
one_more pattern_parts name i pattern_part few within is =
    ap (λ ps. has_prefix ps (drop i name)) (drop_more pattern_parts i pattern_part few) ∙ ap (λ bytes. has_prefix (get_or pattern_parts i pattern_part ∷ drop (i + 1) pattern_parts) bytes) (drop_more name i 0 within)
    ∙ ap (λ p. is_right p (get_or name i 0) && has_prefix (drop (i + 1) pattern_parts) (drop (i + 1) name)) (sym is)

pub goes_on : (pattern_parts : List PatternPart) (name : List ℕ) (i : ℕ) (pattern_part : PatternPart) → i < length pattern_parts → i < length name → pattern_part ≡ get_or pattern_parts i pattern_part
    → is_right pattern_part (get_or name i 0) ≡ true → has_prefix (drop (i + 1) pattern_parts) (drop (i + 1) name) ≡ has_prefix (drop i pattern_parts) (drop i name)
goes_on pattern_parts name i pattern_part few within is right =
    sym (one_more pattern_parts name i pattern_part few within is ∙ ap (λ b. b && has_prefix (drop (i + 1) pattern_parts) (drop (i + 1) name)) right)

pub stops : (pattern_parts : List PatternPart) (name : List ℕ) (i : ℕ) (pattern_part : PatternPart) → i < length pattern_parts → i < length name → pattern_part ≡ get_or pattern_parts i pattern_part
    → is_right pattern_part (get_or name i 0) ≡ false → has_prefix (drop i pattern_parts) (drop i name) ≡ false
stops pattern_parts name i pattern_part few within is right =
    one_more pattern_parts name i pattern_part few within is ∙ ap (λ b. b && has_prefix (drop (i + 1) pattern_parts) (drop (i + 1) name)) right

-- nothing is left to compare
pub ended : (pattern_parts : List PatternPart) (name : List ℕ) (i : ℕ) → length pattern_parts ≤ i → has_prefix (drop i pattern_parts) (drop i name) ≡ true
unfolding has_prefix
ended pattern_parts name i past = ap (λ ps. has_prefix ps (drop i name)) (drop_all i pattern_parts past)
