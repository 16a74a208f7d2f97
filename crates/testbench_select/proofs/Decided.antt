-- The relation of patterns and names as a test.
use Rattle.std.proofs.Common.{ℕ, ◌≡◌, ◌↔◌, ◌≤◌, ◌&&◌, zero, suc, Bool, false, true, List, [], ◌∷◌, length, drop, arith, refl, sym, ap, subst, ◌∙◌, inl, inr}
use Rattle.std.specs.List.{list_any}
use Rattle.std.proofs.lemmas.Bool.{cases_Bool}
use Rattle.testbench_select.specs.declared.pattern.PatternPart.{PatternPart}
use Rattle.testbench_select.specs.declared.pattern.PatternPart.TheVariants.{AnyBytes, AnyByte, Byte, OneOf}
use Rattle.testbench_select.specs.Matching.{Matches}
use Rattle.testbench_select.specs.Fits.{ends_of, fits_pattern_parts}
use Rattle.testbench_select.specs.Segments.{is_any_bytes, is_right, is_match}
use Rattle.testbench_select.proofs.Matched.{first_true, second_true, both_true}
use Rattle.testbench_select.proofs.Parts.{part_is, is_part}

-- if a test holds for a suffix of a list, it holds after some number of elements is dropped
end_is : {X : Type 0} (test : List X → Bool) (xs : List X) → list_any test (ends_of xs) ≡ true → (count : ℕ) × (count ≤ length xs) × (test (drop count xs) ≡ true)
end_is test [] is = elim (cases_Bool (test [])) [
  | inl t ↦ (0, omega arith, t)
  | inr f ↦ let no : false ≡ true = sym (ap (λ b. list_any (λ (c : Bool). c) (b ∷ [])) f) ∙ is in absurd cc
]
end_is test (x ∷ xs) is = elim (cases_Bool (test (x ∷ xs))) [
  | inl t ↦ (0, omega arith, t)
  | inr f ↦
      let later = end_is test xs (rw f at is) in
      (suc later.0, omega (arith, later.1), later.2)
]

is_end : {X : Type 0} (test : List X → Bool) (xs : List X) (count : ℕ) → count ≤ length xs → test (drop count xs) ≡ true → list_any test (ends_of xs) ≡ true
is_end test [] zero within is = rw is
is_end test [] (suc count) within is = absurd (omega (arith, within))
is_end test (x ∷ xs) zero within is = rw is
is_end test (x ∷ xs) (suc count) within is = elim (cases_Bool (test (x ∷ xs))) [
  | inl t ↦ rw t
  | inr f ↦ rw f (is_end test xs count (omega (arith, within)) is)
]

-- a pattern part for one byte, and what follows it
one_is : (pattern_part : PatternPart) (pattern_parts : List PatternPart) (name : List ℕ) → is_any_bytes pattern_part ≡ false → is_match (pattern_part ∷ pattern_parts) name ≡ true → ((rest : List ℕ) → is_match pattern_parts rest ≡ true → Matches pattern_parts rest) → Matches (pattern_part ∷ pattern_parts) name
unfolding fits_pattern_parts
one_is pattern_part pattern_parts [] single is more = let no : false ≡ true = rw single at is in absurd cc
one_is pattern_part pattern_parts (byte ∷ bytes) single is more =
    let both : (is_right pattern_part byte && is_match pattern_parts bytes) ≡ true = rw single at is in
    (1, omega arith, is_part pattern_part byte single (first_true (is_right pattern_part byte) (is_match pattern_parts bytes) both), more bytes (second_true (is_right pattern_part byte) (is_match pattern_parts bytes) both))

is_one : (pattern_part : PatternPart) (pattern_parts : List PatternPart) (name : List ℕ) → is_any_bytes pattern_part ≡ false → Matches (pattern_part ∷ pattern_parts) name → ((rest : List ℕ) → Matches pattern_parts rest → is_match pattern_parts rest ≡ true) → is_match (pattern_part ∷ pattern_parts) name ≡ true
unfolding fits_pattern_parts
is_one pattern_part pattern_parts name single is more =
    let one = part_is pattern_part name is.0 single is.1 is.2 in
    let left : Matches pattern_parts one.rest = subst (λ n. Matches pattern_parts (drop 1 n)) one.begins (subst (λ k. Matches pattern_parts (drop k name)) one.one is.3) in
    subst (λ n. is_match (pattern_part ∷ pattern_parts) n ≡ true) (sym one.begins) (rw single (both_true (is_right pattern_part one.byte) (is_match pattern_parts one.rest) one.right (more one.rest left)))

matched : (pattern_parts : List PatternPart) (name : List ℕ) → is_match pattern_parts name ≡ true → Matches pattern_parts name
unfolding fits_pattern_parts
matched [] [] is = refl
matched [] (byte ∷ bytes) is = absurd cc
matched (AnyBytes ∷ pattern_parts) name is =
    let end = end_is (is_match pattern_parts) name is in
    (end.0, end.1, tt, matched pattern_parts (drop end.0 name) end.2)
matched (AnyByte ∷ pattern_parts) name is = one_is AnyByte pattern_parts name refl is (matched pattern_parts)
matched (Byte byte ∷ pattern_parts) name is = one_is (Byte byte) pattern_parts name refl is (matched pattern_parts)
matched (OneOf negated ranges ∷ pattern_parts) name is = one_is (OneOf negated ranges) pattern_parts name refl is (matched pattern_parts)

tested : (pattern_parts : List PatternPart) (name : List ℕ) → Matches pattern_parts name → is_match pattern_parts name ≡ true
unfolding fits_pattern_parts
tested [] [] is = refl
tested [] (byte ∷ bytes) is = absurd cc
tested (AnyBytes ∷ pattern_parts) name is = is_end (is_match pattern_parts) name is.0 is.1 (tested pattern_parts (drop is.0 name) is.3)
tested (AnyByte ∷ pattern_parts) name is = is_one AnyByte pattern_parts name refl is (tested pattern_parts)
tested (Byte byte ∷ pattern_parts) name is = is_one (Byte byte) pattern_parts name refl is (tested pattern_parts)
tested (OneOf negated ranges ∷ pattern_parts) name is = is_one (OneOf negated ranges) pattern_parts name refl is (tested pattern_parts)

-- the test holds exactly where the relation does
pub Matches-decides : (pattern_parts : List PatternPart) (name : List ℕ) → (is_match pattern_parts name ≡ true) ↔ Matches pattern_parts name
Matches-decides pattern_parts name = (matched pattern_parts name, tested pattern_parts name)

-- and so does what another test says that decides the relation
pub same_test : (pattern_parts : List PatternPart) (name : List ℕ) (answer : Bool) → (answer ≡ true) ↔ Matches pattern_parts name → answer ≡ is_match pattern_parts name
same_test pattern_parts name true decides = sym (tested pattern_parts name (decides.0 refl))
same_test pattern_parts name false decides = elim (cases_Bool (is_match pattern_parts name)) [
  | inl t ↦ let no : false ≡ true = decides.1 (matched pattern_parts name t) in absurd cc
  | inr f ↦ sym f
]
