-- Where a string ends: at the first quote after its own, if no other one comes right after that.
use Rattle.std.proofs.Common.{◌≡◌, ◌≢◌, zero, suc, ℕ, ◌+◌, ◌-◌, ◌<◌, ◌≤◌, ⊎_elim, inl, inr, true, false, not, ◌&&◌, List, [], ◌∷◌, ◌++◌, length, slice_index, refl, sym, ap, ◌∙◌, arith}
use Rattle.std.proofs.lemmas.Bool.{cases_Bool, cond-true, cond-false}
use Rattle.std.proofs.lemmas.Bool.Decides.{nat_tests}
use Rattle.std.proofs.str.Laws.{order}
use Rattle.vhdl_spec.proofs.Exists.{start_inside}
use Rattle.vhdl_spec.specs.Tokens.{Inside, nothing, byte, pair, IsDelimited, is_line_end}
use Rattle.generated_sources.proofs.ByteTests.{begins_with, in_line, is_empty, is_quote, ends_quoted, both_of, not_false}
use Rattle.generated_sources.proofs.Rests.{IsRest, rest_byte}

-- bytes up to a quote, after which no other one comes: where it is, from an offset on
pub record Quoted (bytes rest : List ℕ) : Type 0 where
  pub inner : ℕ
  pub size : length bytes ≡ inner + 1
  pub plain : (i : ℕ) → i < inner → (slice_index (bytes ++ rest) i ≢ 34) × (is_line_end (slice_index (bytes ++ rest) i) ≡ false)
  pub closes : slice_index (bytes ++ rest) inner ≡ 34
  pub alone : slice_index (bytes ++ rest) (suc inner) ≢ 34

quoted_more : (b : ℕ) (bytes rest : List ℕ) → b ≢ 34 → is_line_end b ≡ false → Quoted bytes rest → Quoted (b ∷ bytes) rest
quoted_more b bytes rest other in_a_line q = record {
  inner = suc q.inner;
  size = omega (arith, q.size);
  plain = plain;
  closes = q.closes;
  alone = q.alone;
} where
  plain : (i : ℕ) → i < suc q.inner → (slice_index (b ∷ bytes ++ rest) i ≢ 34) × (is_line_end (slice_index (b ∷ bytes ++ rest) i) ≡ false)
  plain zero inside = (other, in_a_line)
  plain (suc i) inside = q.plain i (omega (arith, inside))

quoted_last : (b : ℕ) (bytes rest : List ℕ) → b ≡ 34 → is_empty bytes ≡ true → begins_with is_quote rest ≡ false → Quoted (b ∷ bytes) rest
quoted_last b (next ∷ bytes) rest is none ends = let no_way : ⊥ = cc in absurd no_way
quoted_last b [] [] is none ends = record { inner = 0; size = refl; plain = λ i inside. absurd (omega (arith, inside)); closes = is; alone = λ e. omega (arith, e) }
quoted_last b [] (next ∷ rest) is none ends = record { inner = 0; size = refl; plain = λ i inside. absurd (omega (arith, inside)); closes = is; alone = λ e. let no_way : ⊥ = grind (arith, nat_tests) in no_way }

pub quoted_of : (bytes rest : List ℕ) → ends_quoted bytes rest ≡ true → Quoted bytes rest
quoted_of [] rest fits = let no_way : ⊥ = cc in absurd no_way
quoted_of (b ∷ bytes) rest fits =
    elim (cases_Bool (is_quote b)) [
      | inl t ↦
          let both = both_of (is_empty bytes) (not (begins_with is_quote rest)) (sym (cond-true (is_quote b) (is_empty bytes && not (begins_with is_quote rest)) (in_line b && ends_quoted bytes rest) t) ∙ fits) in
          quoted_last b bytes rest (grind (arith, nat_tests)) both.0 (not_false (begins_with is_quote rest) both.1)
      | inr f ↦
          let both = both_of (in_line b) (ends_quoted bytes rest) (sym (cond-false (is_quote b) (is_empty bytes && not (begins_with is_quote rest)) (in_line b && ends_quoted bytes rest) f) ∙ fits) in
          quoted_more b bytes rest (λ e. let no_way : ⊥ = grind (arith, nat_tests) in no_way) (not_false (is_line_end b) both.0) (quoted_of bytes rest both.1)
    ]

module _ (text : List ℕ) (start : ℕ) (bytes rest : List ℕ) (is : IsRest text (start + 1) (bytes ++ rest)) (q : Quoted bytes rest) where
  byte_at : (i : ℕ) → slice_index text (start + 1 + i) ≡ slice_index (bytes ++ rest) i
  byte_at i = rest_byte text (start + 1) (bytes ++ rest) is i

  inside_to : (count : ℕ) → count ≤ q.inner → Inside 34 text (start + 1) (start + 1 + count)
  inside_to zero within = nothing (omega arith)
  inside_to (suc count) within =
      let plain = q.plain count (omega (arith, within)) in
      byte (inside_to count (omega (arith, within))) (λ e. plain.0 (sym (byte_at count) ∙ e)) (ap is_line_end (byte_at count) ∙ plain.1) (omega arith)

  pub delimited : IsDelimited 34 text start (start + 1 + q.inner + 1)
  delimited = record { close = start + 1 + q.inner; inside = inside_to q.inner (omega arith); closes = byte_at q.inner ∙ q.closes; up_to = refl }

  -- no string goes on past the quote
  pub before_close : {end : ℕ} → Inside 34 text (start + 1) end → end ≤ start + 1 + q.inner
  before_close (nothing up_to) = omega (arith, up_to)
  before_close (byte {at = at} inside other line up_to) =
      let before : at ≤ start + 1 + q.inner = before_close inside in
      ⊎_elim
      (λ (less : at < start + 1 + q.inner). omega (arith, less, up_to))
      (λ (same : start + 1 + q.inner ≤ at). absurd (let here : at ≡ start + 1 + q.inner = omega (arith, before, same) in other (ap (λ (n : ℕ). slice_index text n) here ∙ byte_at q.inner ∙ q.closes)))
      (order at (start + 1 + q.inner))
  before_close (pair {at = at} inside first second up_to) =
      let before : at ≤ start + 1 + q.inner = before_close inside in
      let from : start + 1 ≤ at = start_inside inside in
      ⊎_elim
      (λ (less : at < start + 1 + q.inner). absurd (
      let here : start + 1 + (at - (start + 1)) ≡ at = omega (arith, from) in
      (q.plain (at - (start + 1)) (omega (arith, from, less))).0 (sym (byte_at (at - (start + 1))) ∙ ap (λ (n : ℕ). slice_index text n) here ∙ first)))
      (λ (same : start + 1 + q.inner ≤ at). absurd (
      let next : start + 1 + suc q.inner ≡ at + 1 = omega (arith, before, same) in
      q.alone (sym (byte_at (suc q.inner)) ∙ ap (λ (n : ℕ). slice_index text n) next ∙ second)))
      (order at (start + 1 + q.inner))
