use Rattle.std.proofs.Common.{◌≡◌, true, false}
use Rattle.outside.specs.Disks.{reads_of}
use Rattle.store_journal.specs.Forms.{has_form}
use Rattle.store_journal.proofs.Forms.{counts_has_form, counts_no_form}
use Rattle.store_journal.proofs.opening.open_sides.Goals as goal

pub open-requires-clause-live : goal.open-requires-clause-live
open-requires-clause-live g c = λ told. c.in-Some.ensures.counts c.args.form (reads_of (g.D.Disk.moments c.args.disk.now).now) (c.requires.headers told)

pub returns-in-None-clause-holds : goal.returns-in-None-clause-holds
returns-in-None-clause-holds g c = λ told live.
    let image = reads_of (g.D.Disk.moments c.args.disk.now).now in
    let gone : has_form c.args.form image ≡ false = counts_no_form c.args.form image (c.in-None.ensures.counts c.args.form image (c.requires.headers told)) in
    absurd (cc (gone, live))

pub returns-in-None-clause-apart : goal.returns-in-None-clause-apart
returns-in-None-clause-apart g c = λ told gone. c.begin.ensures.apart told

pub returns-in-Some-clause-holds : goal.returns-in-Some-clause-holds
returns-in-Some-clause-holds g c = λ told live. c.open.ensures.holds told

pub returns-in-Some-clause-apart : goal.returns-in-Some-clause-apart
returns-in-Some-clause-apart g c = λ told gone.
    let image = reads_of (g.D.Disk.moments c.args.disk.now).now in
    let live : has_form c.args.form image ≡ true = counts_has_form c.args.form image c.in-Some.live.side (c.in-Some.ensures.counts c.args.form image (c.requires.headers told)).counts in
    absurd (cc (gone, live))
