-- One link more.
use Rattle.std.proofs.Common.{◌<◌, length, arith}
use Rattle.std.proofs.lemmas.List.{take_more}
use Rattle.vhdl_scope.proofs.LookLemmas.{followed_both}
use Rattle.vhdl_scope.proofs.look.look.Goals as goal

pub loop-link-preserved : goal.loop-link-preserved
loop-link-preserved c =
    let within : c.loop-link.link-index < length c.args.links.now = omega arith in
    rw (take_more c.args.links.now c.loop-link.link-index (record { library_number = 0; source = 0 }) within)
    (followed_both _ _ _ _ _ _ _ _ c.loop-link.invariant c.in_ok-more.ensures.looked)
