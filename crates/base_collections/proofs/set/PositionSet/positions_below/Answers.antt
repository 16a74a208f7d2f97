-- What remains to be proved of `positions_below`.
use Rattle.std.proofs.Common.{ℕ, ◌++◌, ◌∷◌, [], List, sym, ap, ◌∙◌, arith}
use Rattle.base_collections.specs.Positions.{has}
use Rattle.base.specs.PresentGraph.{below}
use Rattle.base_collections.proofs.Passing.{none_between, one_passes}
use Rattle.base_collections.proofs.set.PositionSet.positions_below.Goals as goal

pub loop-count-init : goal.loop-count-init
unfolding below
loop-count-init c = record { passed = omega arith; within = omega arith; so_far = c.new-positions.ensures }

pub returns-in_default : goal.returns-in_default
returns-in_default c =
    c.loop-count.invariant.so_far ∙ sym (none_between (has c.args.self.now) c.loop-count.from c.args.end c.loop-count.invariant.within (λ k le lt. c.in_default.ensures k le))

pub returns-then-next-end : goal.returns-then-next-end
returns-then-next-end c =
    c.loop-count.invariant.so_far ∙ sym (none_between (has c.args.self.now) c.loop-count.from c.args.end c.loop-count.invariant.within (λ k le lt. c.in-Some.ensures.2 k le (omega arith)))

pub loop-count-preserved : goal.loop-count-preserved
loop-count-preserved c = record {
  passed = omega (arith, c.loop-count.invariant.passed, c.in-Some.ensures.0);
  within = omega arith;
  so_far = c.in_ok-push.ensures.ok ∙ ap (λ (xs : List ℕ). xs ++ c.in-Some.next ∷ []) c.loop-count.invariant.so_far
      ∙ sym (one_passes (has c.args.self.now) c.loop-count.from c.in-Some.next c.in-Some.ensures.0 c.in-Some.ensures.1 c.in-Some.ensures.2);
}
