-- Two texts that differ have different values at one of two points.
use Rattle.std.proofs.Common.{◌≡◌, ◌≢◌, ℕ, ◌+◌, ◌*◌, ◌%◌, ◌/◌, ◌<◌, ◌≤◌, nat_lt, eqb, true, false, List, length, get_or, refl, sym, ap, ◌∙◌, arith, inl, inr}
use Rattle.std.proofs.lemmas.Bool.{cases_lt, le-ltb}
use Rattle.std.proofs.lemmas.Bool.Decides.{Decides-eqb, Decides-ltb}
use Rattle.std.proofs.lemmas.Grind.{same_number_lists}
use Rattle.base_collections.specs.Splits.{value_at}

low_value : (text : List ℕ) (at : ℕ) → at < length text → value_at text (2 * at) ≡ get_or text at 0 % 16
unfolding value_at
low_value text at l =
    let half : (2 * at) / 2 ≡ at = omega arith in
    let even : eqb ((2 * at) % 2) 0 ≡ true = (Decides-eqb _ _).1 (omega arith) in
    let low : nat_lt at (length text) ≡ true = (Decides-ltb at (length text)).1 l in
    rw (half, low, even) refl

high_value : (text : List ℕ) (at : ℕ) → at < length text → value_at text (2 * at + 1) ≡ get_or text at 0 / 16
unfolding value_at
high_value text at l =
    let half : (2 * at + 1) / 2 ≡ at = omega arith in
    let odd : (2 * at + 1) % 2 ≡ 1 = omega arith in
    let low : nat_lt at (length text) ≡ true = (Decides-ltb at (length text)).1 l in
    rw (half, low, odd) refl

end_value : (text : List ℕ) (at : ℕ) → length text ≤ at → value_at text (2 * at) ≡ 16
unfolding value_at
end_value text at l =
    let half : (2 * at) / 2 ≡ at = omega arith in
    let past : nat_lt at (length text) ≡ false = le-ltb _ _ l in
    rw (half, past) refl

pub differ : (old new : List ℕ) (at : ℕ) → old ≢ new → at ≤ length old → at ≤ length new → ((k : ℕ) → k < at → get_or old k 0 ≡ get_or new k 0) → (at < length old → at < length new → get_or old at 0 ≢ get_or new at 0) → value_at old (2 * at) ≡ value_at new (2 * at) → value_at old (2 * at + 1) ≢ value_at new (2 * at + 1)
differ old new at other a b same apart low high =
    elim (cases_lt at (length old)) [
      | inl c ↦ elim (cases_lt at (length new)) [
        | inl d ↦ apart c d (omega (arith, low_value old at c, low_value new at d, high_value old at c, high_value new at d, low, high))
        | inr d ↦ absurd (omega (arith, low_value old at c, end_value new at d, low))
      ]
      | inr c ↦ elim (cases_lt at (length new)) [
        | inl d ↦ absurd (omega (arith, end_value old at c, low_value new at d, low))
        | inr d ↦
            let size : length old ≡ length new = omega (arith, a, b, c, d) in
            other (same_number_lists old new size (λ k l. same k (omega (arith, l, c))))
      ]
    ]
