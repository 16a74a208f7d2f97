-- One more is there.
use Rattle.std.proofs.Common.{◌<◌, ◌∙◌, ◌∷◌, ℕ, List, [], length, arith, subst}
use Rattle.std.proofs.lemmas.List.{get_or_default, take_more}
use Rattle.vhdl_scope.specs.Names.{HasAll, keys_of}
use Rattle.vhdl_scope.proofs.KeyLemmas.{all_both}
use Rattle.vhdl_scope.proofs.names.add_all.Goals as goal

pub loop-name-preserved : goal.loop-name-preserved
loop-name-preserved c =
    let within : c.loop-name.name-index < length c.args.more.now = omega arith in
    let one = subst (λ (x : List ℕ). HasAll (x ∷ []) (keys_of c.loop-name.names) (keys_of c.add.new.names)) (c.bytes.ensures ∙ (c.name-item.is ∙ get_or_default c.args.more.now c.loop-name.name-index _ [] within)) c.in_ok-add.ensures in
    rw (take_more c.args.more.now c.loop-name.name-index [] within) (all_both _ _ _ _ _ c.loop-name.invariant one)
