-- The table of classes is right at each byte, by trying all 256.
use Rattle.std.proofs.Common.{◌≡◌, ℕ, zero, suc, ◌<◌, ◌&&◌, ◌||◌, ◌⊎◌, inl, inr, Bool, true, false, not, cond, slice_index_or, nat_eq, nat_le, refl, subst, ⊎_elim, arith}
use Rattle.std.proofs.str.Laws.{order}
use Rattle.vhdl_spec.specs.Tokens.{is_line_end, is_word_byte, is_number_byte}
use Rattle.vhdl_lex.specs.declared.class.TheConstants.{CLASS}

agree : Bool → Bool → Bool
agree a b = cond a b (not b)

agree_same : (a b : Bool) → agree a b ≡ true → a ≡ b
unfolding agree
agree_same true true e = refl
agree_same true false e = cc
agree_same false true e = cc
agree_same false false e = refl

unfoldable pub tests_below : (ℕ → Bool) → ℕ → Bool
tests_below test zero = true
tests_below test (suc n) = test n && tests_below test n

pub and_parts : (a b : Bool) → (a && b) ≡ true → (a ≡ true) × (b ≡ true)
and_parts true b e = (refl, e)
and_parts false b e = cc

pub or_parts : (a b : Bool) → (a || b) ≡ true → (a ≡ true) ⊎ (b ≡ true)
or_parts true b e = inl refl
or_parts false b e = inr e

pub each_below : (test : ℕ → Bool) (n : ℕ) → tests_below test n ≡ true → (k : ℕ) → k < n → test k ≡ true
unfolding tests_below
each_below test zero passes k below = absurd (omega arith)
each_below test (suc n) passes k below =
    let parts = and_parts (test n) (tests_below test n) passes in
    ⊎_elim (λ h. each_below test n parts.1 k h) (λ h. let is : n ≡ k = omega arith in subst (λ (m : ℕ). test m ≡ true) is parts.0) (order k n)

pub line_end_class : (b : ℕ) → b < 256 → nat_eq (slice_index_or CLASS b 0) 1 ≡ is_line_end b
unfolding agree tests_below
line_end_class b small = agree_same _ _ (each_below (λ n. agree (nat_eq (slice_index_or CLASS n 0) 1) (is_line_end n)) 256 refl b small)

pub word_class : (b : ℕ) → b < 256 → nat_le 3 (slice_index_or CLASS b 0) ≡ is_word_byte b
unfolding agree tests_below
word_class b small = agree_same _ _ (each_below (λ n. agree (nat_le 3 (slice_index_or CLASS n 0)) (is_word_byte n)) 256 refl b small)

pub number_class : (b : ℕ) → b < 256 → nat_le 2 (slice_index_or CLASS b 0) ≡ is_number_byte b
unfolding agree tests_below
number_class b small = agree_same _ _ (each_below (λ n. agree (nat_le 2 (slice_index_or CLASS n 0)) (is_number_byte n)) 256 refl b small)
