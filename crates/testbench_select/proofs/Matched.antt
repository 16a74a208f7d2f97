-- Names that match pattern parts for one byte each, and then others; and pattern parts that stand for any bytes.
use Rattle.std.proofs.Common.{ℕ, ◌≡◌, ◌+◌, ◌-◌, ◌<◌, ◌≤◌, ◌&&◌, Bool, false, true, List, [], ◌∷◌, ◌++◌, length, drop, arith, refl, sym, ap, subst, ◌∙◌, ◌⊎◌, inl, inr}
use Rattle.std.specs.List.{AllByRecursion}
use Rattle.testbench_select.specs.declared.pattern.PatternPart.{PatternPart}
use Rattle.testbench_select.specs.declared.pattern.PatternPart.TheVariants.{AnyBytes}
use Rattle.testbench_select.specs.Matching.{Matches}
use Rattle.testbench_select.specs.Segments.{is_any_bytes, is_right, has_prefix, IsFirstIndex, HasNoIndex}
use Rattle.testbench_select.proofs.Parts.{part_is, is_part}
use Rattle.std.proofs.lemmas.Bool.{cases_lt}
use Rattle.testbench_select.proofs.Prefixes.{too_short}
use Rattle.std.proofs.lemmas.List.{drop-drop, drop_all, length-drop, append-nil}

-- each pattern part is for one byte
abbrev pub Singles : List PatternPart → Type 0
Singles pattern_parts = AllByRecursion (λ pattern_part. is_any_bytes pattern_part ≡ false) pattern_parts

pub first_true : (a b : Bool) → (a && b) ≡ true → a ≡ true
first_true true b both = refl
first_true false b both = both

pub second_true : (a b : Bool) → (a && b) ≡ true → b ≡ true
second_true true b both = both
second_true false b both = absurd cc

pub both_true : (a b : Bool) → a ≡ true → b ≡ true → (a && b) ≡ true
both_true a b one two = ap (λ x. x && b) one ∙ two

-- a name that begins with a byte for each is long enough
pub long_enough : (ps : List PatternPart) (name : List ℕ) → has_prefix ps name ≡ true → length ps ≤ length name
long_enough ps name is = by_size (cases_lt (length name) (length ps)) where
  by_size : ((length name < length ps) ⊎ (length ps ≤ length name)) → length ps ≤ length name
  by_size (inl short) = let no : false ≡ true = sym (too_short ps name short) ∙ is in absurd cc
  by_size (inr long) = long

-- what matches them and then others begins with a byte for each, and the others match the rest
pub then_rest : (ps qs : List PatternPart) (name : List ℕ) → Singles ps → Matches (ps ++ qs) name → (has_prefix ps name ≡ true) × Matches qs (drop (length ps) name)
unfolding has_prefix
then_rest [] qs name singles is = (refl, is)
then_rest (p ∷ ps) qs name singles is =
    let one = part_is p name is.0 singles.0 is.1 is.2 in
    let left : Matches (ps ++ qs) one.rest = subst (λ n. Matches (ps ++ qs) (drop 1 n)) one.begins (subst (λ k. Matches (ps ++ qs) (drop k name)) one.one is.3) in
    let more = then_rest ps qs one.rest singles.1 left in
    subst (λ n. (has_prefix (p ∷ ps) n ≡ true) × Matches qs (drop (length (p ∷ ps)) n)) (sym one.begins) (both_true (is_right p one.byte) (has_prefix ps one.rest) one.right more.0, more.1)

-- conversely: a name that begins with single-byte pattern parts, and whose rest matches other parts, matches all of them
pub rest_then : (ps qs : List PatternPart) (name : List ℕ) → Singles ps → has_prefix ps name ≡ true → Matches qs (drop (length ps) name) → Matches (ps ++ qs) name
unfolding has_prefix
rest_then [] qs name singles begins is = is
rest_then (p ∷ ps) qs [] singles begins is = absurd cc
rest_then (p ∷ ps) qs (byte ∷ bytes) singles begins is =
    (1, omega arith, is_part p byte singles.0 (first_true (is_right p byte) (has_prefix ps bytes) begins), rest_then ps qs bytes singles.1 (second_true (is_right p byte) (has_prefix ps bytes) begins) is)

-- what matches from a later offset on matches from an earlier one too, where the first pattern part stands for any bytes
earlier : (qs : List PatternPart) (name : List ℕ) (p q : ℕ) → p ≤ q → q ≤ length name → Matches (AnyBytes ∷ qs) (drop q name) → Matches (AnyBytes ∷ qs) (drop p name)
earlier qs name p q before within is =
    let same : drop is.0 (drop q name) ≡ drop (is.0 + (q - p)) (drop p name) = drop-drop is.0 q name ∙ ap (λ k. drop k name) (omega (arith, before)) ∙ sym (drop-drop (is.0 + (q - p)) p name) in
    (is.0 + (q - p), omega (arith, before, within, is.1, length-drop {A = ℕ} q name, length-drop {A = ℕ} p name), tt, subst (Matches qs) same is.3)

-- the last pattern parts stand for the last bytes
pub last_is : (seg : List PatternPart) (name : List ℕ) → Singles seg → Matches (AnyBytes ∷ seg) name → (length seg ≤ length name) × (has_prefix seg (drop (length name - length seg) name) ≡ true)
last_is seg name singles is =
    let more = then_rest seg [] (drop is.0 name) singles (subst (λ ps. Matches ps (drop is.0 name)) (sym (append-nil seg)) is.3) in
    let long = long_enough seg (drop is.0 name) more.0 in
    let none : length (drop (length seg) (drop is.0 name)) ≡ 0 = ap length more.1 in
    let count : is.0 ≡ length name - length seg = omega (arith, long, none, is.1, length-drop {A = ℕ} is.0 name, length-drop {A = ℕ} (length seg) (drop is.0 name)) in
    (omega (arith, long, length-drop {A = ℕ} is.0 name), subst (λ k. has_prefix seg (drop k name) ≡ true) count more.0)

pub is_last : (seg : List PatternPart) (name : List ℕ) → Singles seg → length seg ≤ length name → has_prefix seg (drop (length name - length seg) name) ≡ true → Matches (AnyBytes ∷ seg) name
is_last seg name singles within begins =
    let count = length name - length seg in
    let end : drop (length seg) (drop count name) ≡ [] = drop-drop (length seg) count name ∙ drop_all (count + length seg) name (omega (arith, within)) in
    (count, omega arith, tt, subst (λ ps. Matches ps (drop count name)) (append-nil seg) (rest_then seg [] (drop count name) singles begins end))

-- pattern parts between two that stand for any bytes: their first index will do
pub found_is : (seg rest : List PatternPart) (name : List ℕ) (at : ℕ) → Singles seg → IsFirstIndex seg name at → Matches (AnyBytes ∷ (seg ++ AnyBytes ∷ rest)) name → Matches (AnyBytes ∷ rest) (drop (at + length seg) name)
found_is seg rest name at singles part_index is =
    let more = then_rest seg (AnyBytes ∷ rest) (drop is.0 name) singles is.3 in
    let long = long_enough seg (drop is.0 name) more.0 in
    let later : at ≤ is.0 = not_before (cases_lt is.0 at) more.0 in
    earlier rest name (at + length seg) (is.0 + length seg) (omega (arith, later)) (omega (arith, long, is.1, length-drop {A = ℕ} is.0 name))
    (subst (Matches (AnyBytes ∷ rest)) (drop-drop (length seg) is.0 name) more.1)
  where
    not_before : ((is.0 < at) ⊎ (at ≤ is.0)) → has_prefix seg (drop is.0 name) ≡ true → at ≤ is.0
    not_before (inl before) begins = let no : false ≡ true = sym (part_index.first is.0 before) ∙ begins in absurd cc
    not_before (inr later) begins = later

pub is_found : (seg rest : List PatternPart) (name : List ℕ) (at : ℕ) → Singles seg → IsFirstIndex seg name at → Matches (AnyBytes ∷ rest) (drop (at + length seg) name) → Matches (AnyBytes ∷ (seg ++ AnyBytes ∷ rest)) name
is_found seg rest name at singles part_index is =
    (at, part_index.within, tt, rest_then seg (AnyBytes ∷ rest) (drop at name) singles part_index.is (subst (Matches (AnyBytes ∷ rest)) (sym (drop-drop (length seg) at name)) is))

pub none_found : (seg qs : List PatternPart) (name : List ℕ) → Singles seg → HasNoIndex seg name → Matches (AnyBytes ∷ (seg ++ qs)) name → ⊥
none_found seg qs name singles none is =
    let more = then_rest seg qs (drop is.0 name) singles is.3 in
    let no : false ≡ true = sym (none is.0 is.1) ∙ more.0 in absurd cc
