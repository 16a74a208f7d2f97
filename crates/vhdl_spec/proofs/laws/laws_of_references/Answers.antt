-- The way back, both ways, and where clauses begin.
use Rattle.vhdl_spec.proofs.Backwards.{back_gives, back_has, start_is}
use Rattle.vhdl_spec.proofs.laws.laws_of_references.Goals as goal

pub returns-clause-back : goal.returns-clause-back
returns-clause-back c test ends roles at within = (back_gives ends roles test at within, back_has ends roles test at within)

pub returns-clause-start : goal.returns-clause-start
returns-clause-start c = start_is
