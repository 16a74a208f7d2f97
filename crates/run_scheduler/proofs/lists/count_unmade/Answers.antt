-- What remains to be proved of `count_unmade`.
use Rattle.std.proofs.Common.{arith, true, false}
use Rattle.run_scheduler.proofs.NewMachine.{undone_first, undone_step}
use Rattle.run_scheduler.proofs.lists.count_unmade.Goals.{then-not-made-dep, else-not-made-dep}
use Rattle.run_scheduler.proofs.lists.count_unmade.Goals as goal

pub loop-dep-init : goal.loop-dep-init
loop-dep-init c = record { few = omega arith; counted = undone_first c.args.made.now }

pub loop-dep-preserved : goal.loop-dep-preserved
loop-dep-preserved c = record {
  few = elim c.if-not-made-dep.branch [ then-not-made-dep w ↦ omega (arith, c.loop-dep.invariant.few) | else-not-made-dep w ↦ omega (arith, c.loop-dep.invariant.few) ];
  counted = elim c.if-not-made-dep.branch [
    | then-not-made-dep w ↦ undone_step c.args.made.now c.args.deps.now c.loop-dep.dep-index _ _ false c.loop-dep-test.true w.if-not-made-dep.true c.loop-dep.invariant.counted (omega (arith, w.count-is))
    | else-not-made-dep w ↦ undone_step c.args.made.now c.args.deps.now c.loop-dep.dep-index _ _ true c.loop-dep-test.true w.if-not-made-dep.false c.loop-dep.invariant.counted (omega (arith, w.count-is))
  ];
}
