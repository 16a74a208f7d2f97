-- One index more.
use Rattle.std.proofs.Common.{◌<◌, length, arith}
use Rattle.std.proofs.lemmas.List.{take_more}
use Rattle.vhdl_scope.proofs.WorkLemmas.{listed_both}
use Rattle.vhdl_scope.proofs.work.list_all.Goals as goal

pub loop-at-preserved : goal.loop-at-preserved
loop-at-preserved c =
    let within : c.loop-at.at-index < length c.args.row_indices.now = omega arith in
    rw (take_more c.args.row_indices.now c.loop-at.at-index 0 within)
    (listed_both _ _ _ _ _ _ _ _ c.loop-at.invariant c.in_ok-list_one.ensures)
