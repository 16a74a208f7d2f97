use Rattle.std.proofs.Common.{◌≡◌, ◌++◌, ◌∷◌, [], ◌∙◌, sym, subst}
use Rattle.std.specs.Prelude.{Contains}
use Rattle.base_collections.specs.Numbers.{KeyList}
use Rattle.base_collections.proofs.NumberedFinding.{put}
use Rattle.base_collections.proofs.numbered_keys.Numbered.put.Goals as goal

pub returns : goal.returns
returns g c =
    let keys = c.self.inside.keys.keys in
    let new = subst (λ (s : KeyList g.row.K.Denot). ¬ Contains s.keys c.args.key) (sym c.self.view_is) c.requires.new in
    subst (λ (s : KeyList g.row.K.Denot). c.insert.new.self.keys ≡ s.keys ++ c.args.key ∷ []) c.self.view_is
    (c.in-Ok.ensures.keys ∙ put g.met.K.NumberedKey.decides g.met.K.Eq.laws keys c.args.key new)
