-- A key that is there keeps its number, and a new one has the next.
use Rattle.base_collections.proofs.OrderedAdding.{inserted, number_is}
use Rattle.base_collections.proofs.ordered_keys.KeyNumbers.add.Goals as goal

pub returns-clause-number : goal.returns-clause-number
returns-clause-number g c = number_is c.args.self.now c.take.new.self c.args.key g.met.K.Key.decides c.take.ensures.once c.take.result c.take.ensures.ok

pub returns-clause-keys : goal.returns-clause-keys
returns-clause-keys g c = inserted c.args.self.now c.take.new.self c.args.key g.met.K.Key.decides c.take.ensures.once g.met.K.Eq.laws c.take.result c.take.ensures.ok
