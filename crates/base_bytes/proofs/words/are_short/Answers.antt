use Rattle.std.proofs.Common.{rules, ◌≡◌, ◌∙◌, ℕ, length, get_or, ap, sym, arith, inl, inr}
use Rattle.std.proofs.lemmas.Bool.{cases_lt}
use Rattle.std.proofs.lemmas.List.{get_or_default}
use Rattle.base_bytes.proofs.words.are_short.Goals as goal

pub loop-word-preserved : goal.loop-word-preserved
loop-word-preserved c = λ k d l.
    elim (cases_lt k c.loop-word.word-index) [
      | inl low ↦ c.loop-word.invariant k d low
      | inr high ↦
          let same : k ≡ c.loop-word.word-index = omega arith in
          let here : get_or c.args.words.now k d ≡ c.bytes.result.now = ap (λ (n : ℕ). get_or c.args.words.now n d) same ∙ get_or_default c.args.words.now c.loop-word.word-index d c.word-item.result c.loop-word-test.true ∙ sym c.word-item.is ∙ sym c.bytes.ensures in
          omega (arith, ap length here, c.if-bytes-gt-WORD_LIMIT.false)
    ]

pub returns : goal.returns
returns c = (λ t k d l. c.loop-word.invariant k d (omega (arith, c.loop-word-test.false)), λ all. search rules)
