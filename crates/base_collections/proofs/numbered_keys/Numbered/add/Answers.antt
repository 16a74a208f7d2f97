use Rattle.std.proofs.lemmas.Map.Made.{AllPairs-from_IsDistinct}
use Rattle.base_collections.proofs.numbered_keys.Numbered.add.Goals as goal

pub returns-in_err-number-clause-once : goal.returns-in_err-number-clause-once
returns-in_err-number-clause-once g c = AllPairs-from_IsDistinct g.met.K.NumberedKey.decides c.insert_full.new.self.keys c.insert_full.ensures.unique

pub returns-clause-once : goal.returns-clause-once
returns-clause-once g c = AllPairs-from_IsDistinct g.met.K.NumberedKey.decides c.insert_full.new.self.keys c.insert_full.ensures.unique
