use Rattle.std.proofs.Common.{sym, subst}
use Rattle.std.proofs.lemmas.Result.{err_from_is_err_and}
use Rattle.store_journal.specs.Forms.{EmptiesSides}
use Rattle.store_journal.proofs.Emptied.{cut_counts, cut_settles, dead_empties, dead_fails, dead_then_fails}
use Rattle.store_journal.proofs.Readings.{present_has}
use Rattle.store_journal.proofs.clearing.empty_dead.Goals as goal

pub returns-in_err-cut_durably-clause-emptied : goal.returns-in_err-cut_durably-clause-emptied
returns-in_err-cut_durably-clause-emptied g c = λ told older gone.
    let moments = g.D.Disk.moments in
    let old = moments c.args.disk.now in
    let new = moments c.cut_durably.new.disk in
    let failed = err_from_is_err_and c.from_residual.result c.from_residual.ensures.1 in
    subst (λ r. EmptiesSides c.args.newer older r old new) (sym failed.1)
    (dead_fails c.args.newer older failed.0 old new (c.requires.settled told) (c.requires.none told) gone (c.cut_durably.ensures.moments told))

pub begin-requires-clause-settled : goal.begin-requires-clause-settled
begin-requires-clause-settled g c = λ told.
    let moments = g.D.Disk.moments in
    cut_settles (moments c.args.disk.now).now (moments c.cut_durably.new.disk).now (c.requires.settled told) (c.in_ok-cut_durably.ensures.shortened told)

pub begin-requires-clause-none : goal.begin-requires-clause-none
begin-requires-clause-none g c = λ told.
    let moments = g.D.Disk.moments in
    cut_counts c.args.newer (moments c.args.disk.now) (moments c.cut_durably.new.disk) (c.requires.settled told) (c.requires.none told) (c.cut_durably.ensures.moments told) (c.in_ok-cut_durably.ensures.shortened told)

pub returns-in_err-journal-clause-emptied : goal.returns-in_err-journal-clause-emptied
returns-in_err-journal-clause-emptied g c = λ told older gone.
    let moments = g.D.Disk.moments in
    let old = moments c.args.disk.now in
    let middle = moments c.cut_durably.new.disk in
    let new = moments c.begin.new.disk in
    let failed = err_from_is_err_and c.from_residual-in_err-journal.result c.from_residual-in_err-journal.ensures.1 in
    subst (λ r. EmptiesSides c.args.newer older r old new) (sym failed.1)
    (dead_then_fails c.args.newer older old middle new (c.requires.settled told) (c.requires.none told) gone (c.cut_durably.ensures.moments told) (c.in_ok-cut_durably.ensures.shortened told) (c.begin.ensures.any_moment told) (c.begin.ensures.apart told) failed.0)

pub returns-clause-emptied : goal.returns-clause-emptied
returns-clause-emptied g c = λ told older gone.
    let moments = g.D.Disk.moments in
    let old = moments c.args.disk.now in
    let middle = moments c.cut_durably.new.disk in
    let new = moments c.begin.new.disk in
    let in_step = c.in_ok-journal.ensures.in_step told in
    let same = present_has c.args.newer middle new _ (c.begin.ensures.any_moment told) in_step.settled in
    dead_empties c.args.newer older old middle new (c.requires.settled told) (c.requires.none told) gone (c.cut_durably.ensures.moments told) (c.in_ok-cut_durably.ensures.shortened told) (c.begin.ensures.any_moment told) (c.begin.ensures.apart told) c.in_ok-journal.field-0.journal same in_step c.in_ok-journal.ensures.form
