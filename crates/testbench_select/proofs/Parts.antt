-- The part of a name that a pattern part for one byte stands for.
use Rattle.std.proofs.Common.{ℕ, ◌≡◌, ◌≤◌, zero, suc, false, true, List, [], ◌∷◌, length, take, arith, refl, sym, ap, subst, ◌∙◌}
use Rattle.std.proofs.lemmas.List.{length-take}
use Rattle.std.proofs.lemmas.Bool.{eq-eqb, eqb-true}
use Rattle.testbench_select.specs.declared.pattern.PatternPart.{PatternPart}
use Rattle.testbench_select.specs.declared.pattern.PatternPart.TheVariants.{AnyBytes, AnyByte, Byte, OneOf}
use Rattle.testbench_select.specs.Matching.{StandsFor, is_in_set}
use Rattle.testbench_select.specs.Segments.{is_any_bytes, is_right}

-- a name that begins with this byte, and the part is the byte
pub record IsOne (pattern_part : PatternPart) (name : List ℕ) (count : ℕ) : Type 0 where
  pub byte : ℕ
  pub rest : List ℕ
  pub one : count ≡ 1
  pub begins : name ≡ byte ∷ rest
  pub right : is_right pattern_part byte ≡ true

no_bytes : (name : List ℕ) (count : ℕ) → count ≤ length name → length (take count name) ≡ 0 → count ≡ 0
no_bytes name count within none = omega (arith, within, none, length-take {A = ℕ} count name)

-- what is one byte long is the first byte
one_byte : (name : List ℕ) (count : ℕ) → count ≤ length name → length (take count name) ≡ 1 → (byte : ℕ) × (rest : List ℕ) × (count ≡ 1) × (name ≡ byte ∷ rest) × (take count name ≡ byte ∷ [])
one_byte [] count within one = absurd (omega (arith, within, one, length-take {A = ℕ} count []))
one_byte (byte ∷ rest) zero within one = absurd (omega (arith, one))
one_byte (byte ∷ rest) (suc zero) within one = (byte, rest, refl, refl, refl)
one_byte (byte ∷ rest) (suc (suc count)) within one = absurd (omega (arith, within, one, length-take {A = ℕ} (suc (suc count)) (byte ∷ rest)))

head_is : (a b : ℕ) → a ∷ [] ≡ b ∷ [] → a ≡ b
head_is a b same = cc

-- a pattern part for one byte stands for the first byte of a name
pub part_is : (pattern_part : PatternPart) (name : List ℕ) (count : ℕ) → is_any_bytes pattern_part ≡ false → count ≤ length name → StandsFor pattern_part (take count name) → IsOne pattern_part name count
part_is AnyBytes name count single within part = absurd cc
part_is AnyByte name count single within part =
    let (byte, rest, one, begins, taken) = one_byte name count within part in record { byte = byte; rest = rest; one = one; begins = begins; right = refl }
part_is (Byte other) name count single within part =
    let (byte, rest, one, begins, taken) = one_byte name count within (ap length part) in
    record { byte = byte; rest = rest; one = one; begins = begins; right = eq-eqb other byte (head_is other byte (sym part ∙ taken)) }
part_is (OneOf negated ranges) name count single within part =
    let (byte, rest, one, begins, taken) = one_byte name count within (ap length part.1) in
    record { byte = byte; rest = rest; one = one; begins = begins; right = subst (λ b. is_in_set negated ranges b ≡ true) (head_is part.0 byte (sym part.1 ∙ taken)) part.2 }

-- and for no other
pub is_part : (pattern_part : PatternPart) (byte : ℕ) → is_any_bytes pattern_part ≡ false → is_right pattern_part byte ≡ true → StandsFor pattern_part (byte ∷ [])
is_part AnyBytes byte single right = absurd cc
is_part AnyByte byte single right = refl
is_part (Byte other) byte single right = ap (λ b. b ∷ []) (sym (eqb-true other byte right))
is_part (OneOf negated ranges) byte single right = (byte, refl, right)
