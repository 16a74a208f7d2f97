use Rattle.std.proofs.Common.{◌≢◌, subst}
use Rattle.std.specs.Prelude.{AllPairs}
use Rattle.std.proofs.lemmas.Map.Made.{AllPairs-from_IsDistinct}
use Rattle.base_collections.specs.Numbers.{KeyList}
use Rattle.base_collections.proofs.numbered_keys.Numbered.len.Goals as goal

pub returns-clause-once : goal.returns-clause-once
returns-clause-once g c = subst (λ (s : KeyList g.row.K.Denot). AllPairs (λ a b. a ≢ b) s.keys) c.self.view_is (AllPairs-from_IsDistinct g.met.K.NumberedKey.decides c.self.inside.keys.keys c.len.ensures.unique)
