-- The pattern parts and the name that remain after a `*` and the single-byte pattern parts that follow it.
use Rattle.std.proofs.Common.{ℕ, ◌≡◌, ◌↔◌, ◌+◌, ◌-◌, ◌≤◌, ◌==◌, ◌&&◌, false, true, List, [], ◌∷◌, ◌++◌, length, drop, arith, sym, ap, subst, ◌∙◌}
use Rattle.std.specs.Prelude.{nat_le}
use Rattle.std.proofs.lemmas.List.{drop_all, append-nil, length-append, nil_from_length}
use Rattle.std.proofs.lemmas.List.Elements.{recursion_from_All}
use Rattle.std.proofs.lemmas.Bool.{le-leb, leb-true, eqb-true}
use Rattle.testbench_select.specs.declared.pattern.PatternPart.{PatternPart}
use Rattle.testbench_select.specs.declared.pattern.PatternPart.TheVariants.{AnyBytes}
use Rattle.testbench_select.specs.Matching.{Matches}
use Rattle.testbench_select.specs.Segments.{is_any_bytes, has_prefix, AreSingle, BeginsAnyBytes, IsFirstIndex, HasNoIndex}
use Rattle.testbench_select.proofs.Matched.{Singles, first_true, second_true, both_true, then_rest, rest_then, last_is, is_last, found_is, is_found, none_found}

pub record Leaves (others after : List PatternPart) (name rest : List ℕ) : Type 0 where
  pub begins : BeginsAnyBytes after
  pub fewer : length after ≤ length others
  pub same : Matches after rest ↔ Matches (AnyBytes ∷ others) name

singles : (seg : List PatternPart) → AreSingle seg → Singles seg
singles seg each = recursion_from_All (λ pattern_part. is_any_bytes pattern_part ≡ false) seg each

-- the pattern parts end, and the name ends with them
pub ends_left : (others seg after : List PatternPart) (name rest : List ℕ) → seg ++ after ≡ others → AreSingle seg → (length after == 0) ≡ true
    → (nat_le (length seg) (length name) && has_prefix seg (drop (length name - length seg) name)) ≡ true → rest ≡ drop (length name) name → Leaves others after name rest
ends_left others seg after name rest parts each none ends is =
    let no_after : after ≡ [] = nil_from_length after (eqb-true (length after) 0 none) in
    let whole : seg ≡ others = sym (append-nil seg) ∙ sym (ap (λ ps. seg ++ ps) no_after) ∙ parts in
    let empty : rest ≡ [] = is ∙ drop_all (length name) name (omega arith) in
    let long : nat_le (length seg) (length name) ≡ true = first_true (nat_le (length seg) (length name)) (has_prefix seg (drop (length name - length seg) name)) ends in
    let begins : has_prefix seg (drop (length name - length seg) name) ≡ true = second_true (nat_le (length seg) (length name)) (has_prefix seg (drop (length name - length seg) name)) ends in
    let matched : Matches (AnyBytes ∷ others) name = subst (λ ps. Matches (AnyBytes ∷ ps) name) whole
    (is_last seg name (singles seg each) (leb-true (length seg) (length name) long) begins) in
    record {
      begins = subst BeginsAnyBytes (sym no_after) tt;
      fewer = omega (arith, ap length no_after);
      same = (λ _. matched, λ _. subst (λ ps. Matches ps rest) (sym no_after) empty);
    }

-- the pattern parts end, and the name doesn't end with them
pub not_ended : (others seg after : List PatternPart) (name : List ℕ) → seg ++ after ≡ others → AreSingle seg → (length after == 0) ≡ true
    → (nat_le (length seg) (length name) && has_prefix seg (drop (length name - length seg) name)) ≡ false → Matches (AnyBytes ∷ others) name → ⊥
not_ended others seg after name parts each none ends is =
    let no_after : after ≡ [] = nil_from_length after (eqb-true (length after) 0 none) in
    let whole : seg ≡ others = sym (append-nil seg) ∙ sym (ap (λ ps. seg ++ ps) no_after) ∙ parts in
    let last = last_is seg name (singles seg each) (subst (λ ps. Matches (AnyBytes ∷ ps) name) (sym whole) is) in
    let no : true ≡ false = sym (both_true _ _ (le-leb (length seg) (length name) last.0) last.1) ∙ ends in absurd cc

-- their first index
pub found_left : (others seg after : List PatternPart) (name rest : List ℕ) (at : ℕ) → seg ++ after ≡ others → AreSingle seg → (length after == 0) ≡ false → BeginsAnyBytes after
    → IsFirstIndex seg name at → rest ≡ drop (at + length seg) name → Leaves others after name rest
found_left others seg [] name rest at parts each some begins part_index is = absurd cc
found_left others seg (pattern_part ∷ after) name rest at parts each some begins part_index is =
    let here : (seg ++ AnyBytes ∷ after) ≡ others = ap (λ p. seg ++ p ∷ after) (sym begins) ∙ parts in
    record {
      begins = begins;
      fewer = omega (arith, length-append seg (pattern_part ∷ after), ap length parts);
      same = (
        λ m. subst (λ ps. Matches (AnyBytes ∷ ps) name) here (is_found seg after name at (singles seg each) part_index (subst (λ p. Matches (p ∷ after) (drop (at + length seg) name)) begins (subst (Matches (pattern_part ∷ after)) is m))),
        λ m. subst (Matches (pattern_part ∷ after)) (sym is) (subst (λ p. Matches (p ∷ after) (drop (at + length seg) name)) (sym begins) (found_is seg after name at (singles seg each) part_index (subst (λ ps. Matches (AnyBytes ∷ ps) name) (sym here) m))),
      );
    }

-- no index
pub none_left : (others seg after : List PatternPart) (name : List ℕ) → seg ++ after ≡ others → AreSingle seg → HasNoIndex seg name → Matches (AnyBytes ∷ others) name → ⊥
none_left others seg after name parts each none is = none_found seg after name (singles seg each) none (subst (λ ps. Matches (AnyBytes ∷ ps) name) (sym parts) is)

-- the pattern parts before the first one for any bytes
pub first_same : (pattern_parts first others : List PatternPart) (name rest : List ℕ) → first ++ others ≡ pattern_parts → AreSingle first → has_prefix first name ≡ true → rest ≡ drop (length first) name → Matches others rest ↔ Matches pattern_parts name
first_same pattern_parts first others name rest parts each begins is = (
  λ m. subst (λ ps. Matches ps name) parts (rest_then first others name (singles first each) begins (subst (Matches others) is m)),
  λ m. subst (Matches others) (sym is) (then_rest first others name (singles first each) (subst (λ ps. Matches ps name) (sym parts) m)).1,
)

pub no_first : (pattern_parts first others : List PatternPart) (name : List ℕ) → first ++ others ≡ pattern_parts → AreSingle first → has_prefix first name ≡ false → Matches pattern_parts name → ⊥
no_first pattern_parts first others name parts each begins is =
    let no : true ≡ false = sym (then_rest first others name (singles first each) (subst (λ ps. Matches ps name) (sym parts) is)).0 ∙ begins in absurd cc
