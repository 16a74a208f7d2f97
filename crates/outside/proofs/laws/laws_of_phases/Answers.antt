-- Answers to the goals of `laws_of_phases`.
use Rattle.outside.proofs.PhaseLaws.{open_failed, open_done, empty_failed, empty_done, then_committed, phases_give}
use Rattle.outside.proofs.laws.laws_of_phases.Goals as goal

pub returns-clause-failed : goal.returns-clause-failed
returns-clause-failed c = open_failed

pub returns-clause-opened : goal.returns-clause-opened
returns-clause-opened c = open_done

pub returns-clause-emptied : goal.returns-clause-emptied
returns-clause-emptied c = empty_done

pub returns-clause-emptying : goal.returns-clause-emptying
returns-clause-emptying c = empty_failed

pub returns-clause-committed : goal.returns-clause-committed
returns-clause-committed c = then_committed

pub returns-clause-gives : goal.returns-clause-gives
returns-clause-gives c = phases_give
