-- What remains to be proved of `laws_of_orders`.
use Rattle.order.proofs.Cycles.{ordered_is, cyclic_is, no_order}
use Rattle.order.proofs.laws.laws_of_orders.Goals as goal

pub returns-clause-ordered : goal.returns-clause-ordered
returns-clause-ordered c edges order are h = ordered_is edges order h

pub returns-clause-cyclic : goal.returns-clause-cyclic
returns-clause-cyclic c edges files are h = cyclic_is edges files are h

pub returns-clause-apart : goal.returns-clause-apart
returns-clause-apart c edges order files is cycle = no_order edges order files is cycle
