use Rattle.std.proofs.Common.{◌≡◌, ℕ, slice_index_or, refl, ap, ◌∙◌, arith, inl, inr}
use Rattle.std.proofs.lemmas.Bool.{cases_lt}
use Rattle.std.proofs.lemmas.List.{get_or_default}
use Rattle.store_form_2.proofs.drafts.are_below.Goals as goal

pub loop-number-preserved : goal.loop-number-preserved
loop-number-preserved c = λ k d l.
    elim (cases_lt k c.loop-number.number-index) [
      | inl a ↦ c.loop-number.invariant k d a
      | inr a ↦
          let here : k ≡ c.loop-number.number-index = omega arith in
          let same : slice_index_or c.args.numbers.now k d ≡ slice_index_or c.args.numbers.now c.loop-number.number-index 0 =
          get_or_default c.args.numbers.now k d 0 (omega (arith, c.loop-number-test.true, here)) ∙ ap (λ (n : ℕ). slice_index_or c.args.numbers.now n 0) here in
          omega (arith, same, c.if-number-bound.false)
    ]

pub returns : goal.returns
returns c = (λ e k d l. c.loop-number.invariant k d (omega (arith, c.loop-number-test.false, l)), λ all. refl)
