use Rattle.std.proofs.Common.{◌≡◌, inl, inr, sym, ap, ◌∙◌}
use Rattle.outside.specs.Disks.{reads_of}
use Rattle.store_journal.specs.Payloads.{payloads}
use Rattle.store_journal.specs.Journals.{IsInStep}
use Rattle.store_journal.proofs.Readings.{ok_both, present_has, read_has, then_all, then_has}
use Rattle.store_journal.proofs.Resting.{rests_healthy}
use Rattle.store_journal.proofs.journal.Journal.from_disk.Goals as goal

pub returns-in_err-headers-clause-any_moment : goal.returns-in_err-headers-clause-any_moment
returns-in_err-headers-clause-any_moment g c = λ told. read_has c.args.form (g.D.Disk.moments c.args.disk.now) (g.D.Disk.moments c.read_headers.new.disk) (c.read_headers.ensures.moments told)

pub returns-in_err-headers-clause-opens : goal.returns-in_err-headers-clause-opens
returns-in_err-headers-clause-opens g c = λ told. inl (c.read_headers.ensures.moments told)

pub returns-clause-any_moment : goal.returns-clause-any_moment
returns-clause-any_moment g c = λ told.
    let moments = g.D.Disk.moments in
    then_has c.args.form (moments c.args.disk.now) (moments c.read_headers.new.disk) (moments c.open_sides.new.disk) (c.read_headers.ensures.moments told) (c.in_ok-headers.ensures.settled told) (c.open_sides.ensures.any_moment told)

pub returns-clause-opens : goal.returns-clause-opens
returns-clause-opens g c = λ told.
    let moments = g.D.Disk.moments in
    inr (moments c.read_headers.new.disk, c.read_headers.ensures.moments told, then_all c.args.form (moments c.args.disk.now) (moments c.read_headers.new.disk) (moments c.open_sides.new.disk) (c.in_ok-headers.ensures.settled told) (c.open_sides.ensures.any_moment told))

pub returns-clause-held : goal.returns-clause-held
returns-clause-held g c = λ told.
    let middle = g.D.Disk.moments c.read_headers.new.disk in
    let new = g.D.Disk.moments c.open_sides.new.disk in
    let list = payloads c.args.form (reads_of middle.now) in
    ok_both c.open_sides.result (λ opened. IsInStep opened.journal new.now) (λ opened. g.T.Visitor.taken opened.payloads ≡ list) (λ opened. payloads c.args.form (reads_of new.now) ≡ g.T.Visitor.taken opened.payloads)
    (λ opened in_step is. present_has c.args.form middle new list (c.open_sides.ensures.any_moment told) in_step.settled ∙ sym is)
    (c.open_sides.ensures.in_step told) (c.open_sides.ensures.payloads told)

pub returns-clause-rests : goal.returns-clause-rests
returns-clause-rests g c = λ told.
    rests_healthy c.args.form c.open_sides.result (g.D.Disk.moments c.args.disk.now) (g.D.Disk.moments c.read_headers.new.disk) (g.D.Disk.moments c.open_sides.new.disk) (c.read_headers.ensures.moments told) (ap reads_of (c.in_ok-headers.ensures.settled told)) (c.open_sides.ensures.rests told)
