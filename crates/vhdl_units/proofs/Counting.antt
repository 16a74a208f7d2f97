-- Parentheses up to one more token.
use Rattle.std.proofs.Common.{◌≡◌, ◌≢◌, ℕ, ◌+◌, ◌<◌, ◌≤◌, Bool, false, cond, List, [], ◌∷◌, length, slice_range, refl, sym, ◌∙◌, ap, subst, arith, add-zero}
use Rattle.std.specs.List.{count_by}
use Rattle.std.proofs.lemmas.List.Edits.{between_more}
use Rattle.std.proofs.lemmas.List.Sums.{sum_by-append}
use Rattle.base.specs.declared.design.Role.{Role}
use Rattle.base.specs.declared.design.Role.TheVariants.{Opening, Closing, Other}
use Rattle.vhdl_units.specs.declared.level.Counts.{Counts}
use Rattle.vhdl_spec.specs.Units.{role_at, is_opening, is_closing}
use Rattle.vhdl_units.specs.Walk.{AreCounts}

pub count_more : (test : Role → Bool) (roles : List Role) (start at : ℕ) → start ≤ at → at < length roles → count_by test (slice_range roles start (at + 1)) ≡ count_by test (slice_range roles start at) + cond (test (role_at roles at)) 1 0
count_more test roles start at ordered within =
    ap (count_by test) (between_more roles start at Other ordered within) ∙ sum_by-append (λ x. cond (test x) 1 0) (slice_range roles start at) (role_at roles at ∷ []) ∙ ap (λ (n : ℕ). count_by test (slice_range roles start at) + n) (grind arith)

-- the counts after one more token
pub counts_more : (roles : List Role) (start at : ℕ) (counts : Counts) → AreCounts roles start at counts → at < length roles → AreCounts roles start (at + 1) (record { opened = counts.opened + cond (is_opening (role_at roles at)) 1 0; closed = counts.closed + cond (is_closing (role_at roles at)) 1 0 })
counts_more roles start at counts are within = record {
  ordered = omega (arith, are.ordered);
  within = omega arith;
  opened = ap (λ (n : ℕ). n + cond (is_opening (role_at roles at)) 1 0) are.opened ∙ sym (count_more is_opening roles start at are.ordered within);
  closed = ap (λ (n : ℕ). n + cond (is_closing (role_at roles at)) 1 0) are.closed ∙ sym (count_more is_closing roles start at are.ordered within);
}

pub not_opening : (role : Role) → role ≢ Opening → is_opening role ≡ false
not_opening Opening other = absurd (other refl)
not_opening _ other = refl

pub not_closing : (role : Role) → role ≢ Closing → is_closing role ≡ false
not_closing Closing other = absurd (other refl)
not_closing _ other = refl

module _ (roles : List Role) (start at : ℕ) (counts : Counts) (are : AreCounts roles start at counts) (within : at < length roles) where
  counts_by : (opens closes : ℕ) → cond (is_opening (role_at roles at)) 1 0 ≡ opens → cond (is_closing (role_at roles at)) 1 0 ≡ closes → AreCounts roles start (at + 1) (record { opened = counts.opened + opens; closed = counts.closed + closes })
  counts_by opens closes opens_is closes_is =
      subst (λ (n : ℕ). AreCounts roles start (at + 1) (record { opened = counts.opened + opens; closed = counts.closed + n })) closes_is
      (subst (λ (n : ℕ). AreCounts roles start (at + 1) (record { opened = counts.opened + n; closed = counts.closed + cond (is_closing (role_at roles at)) 1 0 })) opens_is (counts_more roles start at counts are within))

  pub opening_more : role_at roles at ≡ Opening → AreCounts roles start (at + 1) (record { opened = counts.opened + 1; closed = counts.closed })
  opening_more is =
      subst (λ (n : ℕ). AreCounts roles start (at + 1) (record { opened = counts.opened + 1; closed = n })) (add-zero counts.closed)
      (counts_by 1 0 (ap (λ (r : Role). cond (is_opening r) 1 0) is) (ap (λ (r : Role). cond (is_closing r) 1 0) is))

  pub closing_more : role_at roles at ≡ Closing → AreCounts roles start (at + 1) (record { opened = counts.opened; closed = counts.closed + 1 })
  closing_more is =
      subst (λ (n : ℕ). AreCounts roles start (at + 1) (record { opened = n; closed = counts.closed + 1 })) (add-zero counts.opened)
      (counts_by 0 1 (ap (λ (r : Role). cond (is_opening r) 1 0) is) (ap (λ (r : Role). cond (is_closing r) 1 0) is))

  pub other_more : role_at roles at ≢ Opening → role_at roles at ≢ Closing → AreCounts roles start (at + 1) counts
  other_more no_opening no_closing =
      subst (λ (n : ℕ). AreCounts roles start (at + 1) (record { opened = n; closed = counts.closed })) (add-zero counts.opened)
      (subst (λ (n : ℕ). AreCounts roles start (at + 1) (record { opened = counts.opened + 0; closed = n })) (add-zero counts.closed)
      (counts_by 0 0 (ap (λ (b : Bool). cond b 1 0) (not_opening (role_at roles at) no_opening)) (ap (λ (b : Bool). cond b 1 0) (not_closing (role_at roles at) no_closing))))
