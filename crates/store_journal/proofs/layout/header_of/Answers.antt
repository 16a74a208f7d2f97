use Rattle.std.proofs.Common.{sym, arith}
use Rattle.store_journal.proofs.Kept.{live_long}
use Rattle.store_journal.proofs.Lives.{first_dead, first_live, first_says}
use Rattle.store_journal.proofs.layout.header_of.Goals as goal

pub returns-in-Some-clause-header : goal.returns-in-Some-clause-header
returns-in-Some-clause-header c = λ bytes length_is first_is.
    first_says c.args.form bytes c.args.first.now c.in-Some.generation c.args.len (sym length_is) first_is (c.in-Some.ensures)

pub returns-in-Some-clause-long : goal.returns-in-Some-clause-long
returns-in-Some-clause-long c =
    let live = first_live c.args.form c.args.first.now c.in-Some.generation c.in-Some.ensures in
    omega (arith, live_long c.args.form c.args.first.now live)

pub returns-in-None-clause-header : goal.returns-in-None-clause-header
returns-in-None-clause-header c = λ bytes length_is first_is.
    first_dead c.args.form bytes c.args.first.now first_is c.in-None.ensures
