-- What remains to be proved of `next_waiting`.
use Rattle.std.proofs.Common.{arith}
use Rattle.order.proofs.Waits.{dep_waits, no_dep_waits}
use Rattle.order.proofs.cycle.next_waiting.Goals as goal

pub returns-then-waiting-dep-clause-next : goal.returns-then-waiting-dep-clause-next
returns-then-waiting-dep-clause-next c edges taken is same =
    dep_waits c.args.waiting.now edges taken is c.args.file c.args.deps.now same c.requires.deps c.loop-dep.dep-index c.loop-dep-test.true c.if-waiting-dep.true c.loop-dep.invariant

pub returns-clause-next : goal.returns-clause-next
returns-clause-next c edges taken is same = no_dep_waits c.args.waiting.now edges taken is c.args.file c.args.deps.now same c.requires.deps (λ k lt. c.loop-dep.invariant k (omega arith))
