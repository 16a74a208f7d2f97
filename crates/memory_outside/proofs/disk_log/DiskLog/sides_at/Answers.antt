use Rattle.std.proofs.Common.{◌<◌, ◌+◌, ◌∙◌, ap, sym, drop, arith}
use Rattle.outside.specs.Disks.{DiskState}
use Rattle.memory_outside.specs.Disks.{state_at}
use Rattle.memory_outside.proofs.LogLemmas.{next_state, state_here}
use Rattle.memory_outside.proofs.disk_log.DiskLog.sides_at.Goals as goal

pub returns-then-kept-moment-2 : goal.returns-then-kept-moment-2
returns-then-kept-moment-2 c =
    let here = state_here c.as_slice-kept-items.result.now c.loop-kept.kept-index c.kept-item.result c.args.moment c.loop-kept.sides (omega arith) c.kept-item.is c.if-kept-moment-2.true in
    c.in_ok-apply.ensures.ok ∙ sym here ∙ c.loop-kept.invariant

pub loop-kept-preserved : goal.loop-kept-preserved
loop-kept-preserved c =
    let before : c.kept-item.result.number < c.args.moment = omega arith in
    let next = next_state c.as_slice-kept-items.result.now c.loop-kept.kept-index c.kept-item.result c.args.moment c.loop-kept.sides (omega arith) c.kept-item.is before in
    ap (λ (d : DiskState). state_at (drop (c.loop-kept.kept-index + 1) c.as_slice-kept-items.result.now) c.args.moment d) c.in_ok-apply-2.ensures.ok ∙ sym next ∙ c.loop-kept.invariant
