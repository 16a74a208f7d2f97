-- What remains to be proved of `first_waiting`.
use Rattle.std.proofs.Common.{arith}
use Rattle.order.proofs.Waits.{first_waits, none_waits}
use Rattle.order.proofs.cycle.first_waiting.Goals as goal

pub returns-then-waiting-file-clause-first : goal.returns-then-waiting-file-clause-first
returns-then-waiting-file-clause-first c edges taken is = first_waits c.args.waiting.now edges taken is c.loop-file.file c.loop-file-test.true c.if-waiting-file.true c.loop-file.invariant

pub returns-clause-first : goal.returns-clause-first
returns-clause-first c edges taken is = none_waits c.args.waiting.now edges taken is (λ k lt. c.loop-file.invariant k (omega arith))
