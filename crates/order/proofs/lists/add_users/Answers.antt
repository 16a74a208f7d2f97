-- What remains to be proved of `add_users`.
use Rattle.std.proofs.Common.{refl, ◌∙◌, [], get_or, ◌==◌}
use Rattle.order.specs.Counts.{times}
use Rattle.order.proofs.Times.{plus_none, times_none, times_more, added_more}
use Rattle.order.proofs.lists.add_users.Goals as goal

pub loop-dep-init : goal.loop-dep-init
loop-dep-init c = record {
  count = refl;
  added = λ other k. plus_none (c.args.file == k) _ (times other []) (times_none other);
}

pub loop-dep-preserved : goal.loop-dep-preserved
loop-dep-preserved c = record {
  count = c.in_ok-add_user.ensures.count ∙ c.loop-dep.invariant.count;
  added = λ other k.
      added_more (get_or c.args.deps.now c.loop-dep.dep-index 0 == other) (c.args.file == k) _ _ _ _ _ (c.in_ok-add_user.ensures.added other k) (c.loop-dep.invariant.added other k)
      (times_more other c.args.deps.now c.loop-dep.dep-index c.loop-dep-test.true);
}
