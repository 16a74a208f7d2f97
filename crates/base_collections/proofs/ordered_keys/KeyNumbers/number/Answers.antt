-- The bucket at which a key is, each once, is the first.
use Rattle.base_collections.proofs.Buckets.{position_is}
use Rattle.base_collections.proofs.ordered_keys.KeyNumbers.number.Goals as goal

pub returns-clause-position : goal.returns-clause-position
returns-clause-position g c = position_is g.met.K.Key.decides c.args.self.now c.args.key.now c.find.result c.find.ensures.once c.find.ensures.bucket
