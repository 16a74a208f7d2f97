-- What remains to be proved of `lower`.
use Rattle.std.proofs.Common.{arith, refl, ◌∙◌}
use Rattle.order.proofs.Times.{times_none, times_more}
use Rattle.order.proofs.lists.lower.Goals as goal

pub loop-user-init : goal.loop-user-init
loop-user-init c = record {
  count = refl;
  lowered = λ k. omega (arith, times_none k);
  ready = λ exact. exact;
}

pub loop-user-preserved : goal.loop-user-preserved
loop-user-preserved c = record {
  count = c.lower_one.ensures.count ∙ c.loop-user.invariant.count;
  lowered = λ k. omega (arith, c.lower_one.ensures.lowered k, c.loop-user.invariant.lowered k, times_more k c.args.users.now c.loop-user.user-index (omega arith));
  ready = λ exact. c.lower_one.ensures.ready (c.loop-user.invariant.ready exact);
}
