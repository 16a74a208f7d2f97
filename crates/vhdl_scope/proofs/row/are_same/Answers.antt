-- All runs are the same.
use Rattle.std.proofs.Common.{arith}
use Rattle.std.proofs.lemmas.List.{ext_get_or}
use Rattle.vhdl_scope.proofs.row.are_same.Goals as goal

pub returns : goal.returns
returns c told = ext_get_or (record { end = 0; word = 0 }) c.args.runs.now c.args.other.now (omega arith) (λ k within. c.loop-at.invariant k (omega (arith, c.loop-at-test.false)))
