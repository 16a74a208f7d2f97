use Rattle.std.proofs.Common.{arith}
use Rattle.store_journal.proofs.WindowLemmas.{closed_none, long_none}
use Rattle.store_journal.proofs.reading.count_after.Goals as goal

pub returns-then-head-ne1-clause-is : goal.returns-then-head-ne1-clause-is
returns-then-head-ne1-clause-is c = λ bytes size head. closed_none bytes c.args.head.commit_byte c.args.head.count head c.if-head-ne1.true

pub returns-then-left-head-clause-is : goal.returns-then-left-head-clause-is
returns-then-left-head-clause-is c = λ bytes size head.
    long_none bytes c.args.head.commit_byte c.args.head.count head c.if-head-ne1.false (omega (arith, c.well_formed)) (omega (arith, size, c.if-left-head.true))
