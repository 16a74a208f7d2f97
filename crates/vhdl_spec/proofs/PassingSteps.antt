-- A walk that passes over indices, one place or one walk further.
use Rattle.std.proofs.Common.{◌≡◌, ℕ, ◌+◌, ◌<◌, ◌≤◌, ◌||◌, Bool, true, false, inl, inr, refl, sym, ◌∙◌, ap, arith}
use Rattle.std.proofs.lemmas.Bool.{cases_lt}
use Rattle.vhdl_spec.specs.Passing.{HasPassedOver, NonePasses}

pub none_more : (test : ℕ → Bool) (from at : ℕ) (found more : Bool) → more ≡ test at → (found ≡ false → NonePasses test from at) → (found || more) ≡ false → NonePasses test from (at + 1)
none_more test from at true more is so_far none k reach below = let never : ⊥ = cc in absurd never
none_more test from at false true is so_far none k reach below = let never : ⊥ = cc in absurd never
none_more test from at false false is so_far none k reach below = elim (cases_lt k at) [
  | inl earlier ↦ so_far refl k reach earlier
  | inr late ↦ let here : k ≡ at = omega arith in ap test here ∙ sym is
]

-- a walk that was passed on from a place
pub passed_on : (test : ℕ → Bool) (from at end next : ℕ) → HasPassedOver test from end at → HasPassedOver test at end next → HasPassedOver test from end next
passed_on test from at end next so_far more = record {
  reaches = omega (arith, so_far.reaches, more.reaches);
  within = more.within;
  none = λ k reach below. elim (cases_lt k at) [
    | inl earlier ↦ so_far.none k reach earlier
    | inr late ↦ more.none k late below
  ];
}

pub passed_here : (test : ℕ → Bool) (at end : ℕ) → at ≤ end → HasPassedOver test at end at
passed_here test at end ordered = record { reaches = omega arith; within = ordered; none = λ k reach below. absurd (omega (arith, reach, below)) }

pub passed_one : (test : ℕ → Bool) (from at end : ℕ) → at < end → HasPassedOver test from end at → test at ≡ false → HasPassedOver test from end (at + 1)
passed_one test from at end before so_far none = passed_on test from at end (at + 1) so_far (record {
  reaches = omega arith;
  within = omega (arith, before);
  none = λ k reach below. let here : k ≡ at = omega (arith, reach, below) in ap test here ∙ none;
})
