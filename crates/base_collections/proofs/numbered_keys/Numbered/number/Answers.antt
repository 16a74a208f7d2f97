use Rattle.std.proofs.Common.{subst}
use Rattle.base_collections.specs.Numbers.{IsIndexOf, KeyList}
use Rattle.base_collections.proofs.NumberedFinding.{found}
use Rattle.base_collections.proofs.numbered_keys.Numbered.number.Goals as goal

pub returns : goal.returns
returns g c =
    subst (λ (s : KeyList g.row.K.Denot). IsIndexOf s.keys c.args.key.now c.get_index_of.result) c.self.view_is
    (found g.met.K.NumberedKey.decides g.met.K.Eq.laws c.self.inside.keys.keys c.args.key.now c.get_index_of.result c.get_index_of.ensures.index c.get_index_of.ensures.found)
