-- The walk keeps the furthest end, and ends where none is further.
use Rattle.std.proofs.Common.{◌≡◌, ◌≢◌, ℕ, ◌+◌, ◌<◌, Option, sym, ◌∙◌, inl, inr, subst, arith}
use Rattle.std.proofs.lemmas.List.{get_or_past}
use Rattle.vhdl_lex.proofs.Delimited.{Walk, walk_start, walk_other, walk_pair, walk_ends, furthest_here}
use Rattle.vhdl_lex.proofs.ends.end_after_delimiter.Goals as goal
use Rattle.vhdl_lex.proofs.ends.end_after_delimiter.Goals.{then-text-close+else-close-text+else-text-close-2, else-text-close, then-close-text-via-then-close-text, then-close-text-via-else-close-text+then-text-close-2}

not_zero : (n : ℕ) → 0 < n → n ≢ 0
not_zero n some zero_is = omega arith

pub loop-close-init : goal.loop-close-init
loop-close-init c = walk_start c.args.delimiter c.args.text.now c.args.at c.requires.within

pub returns-then-close-text : goal.returns-then-close-text
returns-then-close-text c =
    let here = furthest_here c.args.delimiter c.args.text.now c.args.at c.loop-close.close c.loop-close.invariant.inside c.loop-close-test.true c.if-text-close.true in
    elim c.then-close-text.branch [
      | then-close-text-via-then-close-text w ↦ here (λ is. not_zero c.args.delimiter c.requires.some (sym is ∙ get_or_past c.args.text.now (c.loop-close.close + 1) 0 (omega (arith, w.if-close-text.true))))
      | then-close-text-via-else-close-text+then-text-close-2 w ↦ here w.if-text-close-2.true
    ]

pub loop-close-preserved : goal.loop-close-preserved
loop-close-preserved c =
    let delimiter = c.args.delimiter in
    let text = c.args.text.now in
    let start = c.args.at in
    let moved = λ (n : ℕ) (best : Option ℕ) (n_is : c.if-text-close.close ≡ n) (best_is : c.if-text-close.end ≡ best) (walk : Walk delimiter text start (n + 1) best).
    subst (λ (m : ℕ). Walk delimiter text start (m + 1) c.if-text-close.end) (sym n_is) (subst (λ (o : Option ℕ). Walk delimiter text start (n + 1) o) (sym best_is) walk) in
    elim c.if-text-close.branch [
      | then-text-close+else-close-text+else-text-close-2 w ↦
          moved _ _ w.close-is w.end-is (walk_pair delimiter text start c.loop-close.close c.loop-close.end c.loop-close.invariant (not_zero delimiter c.requires.some) c.loop-close-test.true w.if-text-close.true w.if-text-close-2.false)
      | else-text-close w ↦
          moved _ _ w.close-is w.end-is (walk_other delimiter text start c.loop-close.close c.loop-close.end c.loop-close.invariant c.loop-close-test.true w.if-text-close.false (sym c.is_line_end.ensures ∙ c.if-not-is_line_end.true))
    ]

pub returns-else-not-is_line_end : goal.returns-else-not-is_line_end
returns-else-not-is_line_end c =
    walk_ends c.args.delimiter c.args.text.now c.args.at c.loop-close.close c.loop-close.end c.loop-close.invariant (not_zero c.args.delimiter c.requires.some) c.requires.in_line (inl (sym c.is_line_end.ensures ∙ c.if-not-is_line_end.false))

pub returns-after-loop-close : goal.returns-after-loop-close
returns-after-loop-close c =
    walk_ends c.args.delimiter c.args.text.now c.args.at c.loop-close.close c.loop-close.end c.loop-close.invariant (not_zero c.args.delimiter c.requires.some) c.requires.in_line (inr c.loop-close-test.false)
