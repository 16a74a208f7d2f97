use Rattle.std.proofs.Common.{sym, ◌∙◌}
use Rattle.outside.specs.Disks.{reads_of}
use Rattle.store_journal.proofs.Counting.{payloads_none}
use Rattle.store_journal.proofs.Fresh.{begun_moments, begun_in_step}
use Rattle.store_journal.proofs.Stays.{begun_apart}
use Rattle.store_journal.proofs.opening.begin.Goals as goal

pub returns-in_err-make_side-clause-any_moment : goal.returns-in_err-make_side-clause-any_moment
returns-in_err-make_side-clause-any_moment g c = λ told.
    let moments = g.D.Disk.moments in
    begun_moments c.args.form c.empty_side.result (moments c.args.disk.now) (moments c.make_side.new.disk) (c.requires.settled told) (c.requires.none told) c.empty_side.ensures (c.make_side.ensures.steps told)

pub returns-clause-any_moment : goal.returns-clause-any_moment
returns-clause-any_moment g c = λ told.
    let moments = g.D.Disk.moments in
    begun_moments c.args.form c.empty_side.result (moments c.args.disk.now) (moments c.make_side.new.disk) (c.requires.settled told) (c.requires.none told) c.empty_side.ensures (c.make_side.ensures.steps told)

pub returns-clause-in_step : goal.returns-clause-in_step
returns-clause-in_step g c = λ told.
    let moments = g.D.Disk.moments in
    begun_in_step c.args.form c.of.result c.empty_side.result (moments c.args.disk.now).now (moments c.make_side.new.disk).now c.of.ensures (c.requires.settled told) (c.requires.none told) c.empty_side.ensures (c.in_ok-make_side.ensures.made told)

pub returns-clause-payloads : goal.returns-clause-payloads
returns-clause-payloads g c = λ told.
    c.requires.taken ∙ sym (payloads_none c.args.form (reads_of (g.D.Disk.moments c.args.disk.now).now) (c.requires.none told))

pub returns-in_err-make_side-clause-apart : goal.returns-in_err-make_side-clause-apart
returns-in_err-make_side-clause-apart g c = λ told other differs none.
    let moments = g.D.Disk.moments in
    begun_apart c.args.form other c.empty_side.result (moments c.args.disk.now) (moments c.make_side.new.disk) (c.requires.settled told) differs none c.empty_side.ensures (c.make_side.ensures.steps told)

pub returns-clause-apart : goal.returns-clause-apart
returns-clause-apart g c = λ told other differs none.
    let moments = g.D.Disk.moments in
    begun_apart c.args.form other c.empty_side.result (moments c.args.disk.now) (moments c.make_side.new.disk) (c.requires.settled told) differs none c.empty_side.ensures (c.make_side.ensures.steps told)
