-- One name more is put.
use Rattle.std.proofs.Common.{◌<◌, ◌∙◌, ◌∷◌, ℕ, List, [], length, arith, subst}
use Rattle.std.proofs.lemmas.List.{get_or_default, take_more}
use Rattle.vhdl_scope.specs.Names.{keys_of}
use Rattle.vhdl_scope.specs.Graph.{HasPut}
use Rattle.vhdl_scope.proofs.OwnLemmas.{put_both}
use Rattle.vhdl_scope.proofs.own.put_all.Goals as goal

pub loop-name-preserved : goal.loop-name-preserved
loop-name-preserved c =
    let within : c.loop-name.name-index < length c.args.more.now = omega arith in
    let one = subst (λ (x : List ℕ). HasPut (keys_of c.args.names.now) (x ∷ []) c.loop-name.row c.put.new.row) (c.bytes.ensures ∙ (c.name-item.is ∙ get_or_default c.args.more.now c.loop-name.name-index _ [] within)) c.put.ensures in
    rw (take_more c.args.more.now c.loop-name.name-index [] within) (put_both _ _ _ _ _ _ c.loop-name.invariant one)
