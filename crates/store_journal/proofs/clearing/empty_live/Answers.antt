use Rattle.std.proofs.Common.{sym, subst}
use Rattle.std.proofs.lemmas.Result.{err_from_is_err_and}
use Rattle.store_journal.specs.Forms.{EmptiesSides}
use Rattle.store_journal.proofs.Emptied.{live_empties, live_fails}
use Rattle.store_journal.proofs.clearing.empty_live.Goals as goal

pub returns-in_err-clear_sides-clause-emptied : goal.returns-in_err-clear_sides-clause-emptied
returns-in_err-clear_sides-clause-emptied g c = λ told older counts.
    let moments = g.D.Disk.moments in
    let old = moments c.args.disk.now in
    let new = moments c.clear_sides.new.disk in
    let failed = err_from_is_err_and c.from_residual.result c.from_residual.ensures.1 in
    subst (λ r. EmptiesSides c.args.newer older r old new) (sym failed.1)
    (live_fails c.args.newer older c.args.live c.other.result c.empty_side.result failed.0 old new (record { settled_so = c.requires.settled told; counts = counts; other_is = c.other.ensures; empty = c.empty_side.ensures }) (c.clear_sides.ensures.steps told))

pub returns-clause-emptied : goal.returns-clause-emptied
returns-clause-emptied g c = λ told older counts.
    let moments = g.D.Disk.moments in
    live_empties c.args.newer older c.args.live c.other.result c.empty_side.result c.of.result (moments c.args.disk.now) (moments c.clear_sides.new.disk) (record { settled_so = c.requires.settled told; counts = counts; other_is = c.other.ensures; empty = c.empty_side.ensures }) (c.clear_sides.ensures.steps told) (c.in_ok-clear_sides.ensures.made told) c.of.ensures
