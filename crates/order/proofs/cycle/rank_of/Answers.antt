-- What remains to be proved of `rank_of`.
use Rattle.std.proofs.Common.{arith, sym, eqb}
use Rattle.std.proofs.lemmas.Bool.{eq-eqb, ne_eqb}
use Rattle.std.proofs.lemmas.List.Sums.{position_or_len_is}
use Rattle.order.proofs.cycle.rank_of.Goals as goal

pub returns-then-passed-rank-clause-rank : goal.returns-then-passed-rank-clause-rank
returns-then-passed-rank-clause-rank c =
    sym (position_or_len_is (λ other. eqb other c.args.file) c.args.passed.now c.loop-rank.rank 0 (omega arith) (λ k lt. ne_eqb _ c.args.file (c.loop-rank.invariant k lt)) (λ lt. eq-eqb _ c.args.file c.if-passed-rank.true))

pub returns-clause-rank : goal.returns-clause-rank
returns-clause-rank c =
    sym (position_or_len_is (λ other. eqb other c.args.file) c.args.passed.now _ 0 (omega arith) (λ k lt. ne_eqb _ c.args.file (c.loop-rank.invariant k (omega arith))) (λ lt. absurd (omega arith)))
