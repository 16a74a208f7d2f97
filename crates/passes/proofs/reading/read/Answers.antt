use Rattle.std.proofs.Common.{rules, ◌∙◌, sym}
use Rattle.outside.specs.Disks.{reads_of}
use Rattle.passes.proofs.Compacted.{image_asks, store_asks}
use Rattle.passes.proofs.PassMoments.{open_leaves, open_opens}
use Rattle.passes.proofs.reading.read.Goals as goal

pub returns-in_err-journal-clause-any_moment : goal.returns-in_err-journal-clause-any_moment
returns-in_err-journal-clause-any_moment g c = λ told. open_leaves (g.D.Disk.moments c.args.disk.now) (g.D.Disk.moments c.from_disk.new.disk) (c.from_disk.ensures.any_moment told)

pub returns-in_err-journal-clause-opens : goal.returns-in_err-journal-clause-opens
returns-in_err-journal-clause-opens g c = λ told.
    let old = g.D.Disk.moments c.args.disk.now in
    open_opens old (g.D.Disk.moments c.from_disk.new.disk) (reads_of old.now) (c.from_disk.ensures.opens told)

pub returns-in_err-held-clause-any_moment : goal.returns-in_err-held-clause-any_moment
returns-in_err-held-clause-any_moment g c = λ told. open_leaves (g.D.Disk.moments c.args.disk.now) (g.D.Disk.moments c.from_disk.new.disk) (c.from_disk.ensures.any_moment told)

pub returns-in_err-held-clause-opens : goal.returns-in_err-held-clause-opens
returns-in_err-held-clause-opens g c = λ told.
    let old = g.D.Disk.moments c.args.disk.now in
    open_opens old (g.D.Disk.moments c.from_disk.new.disk) (reads_of old.now) (c.from_disk.ensures.opens told)

pub returns-in_err-held-clause-rests : goal.returns-in_err-held-clause-rests
returns-in_err-held-clause-rests g c = λ told healthy. (let rests = c.from_disk.ensures.rests told healthy in record { goes = rests.goes; same = search rules })

pub returns-clause-any_moment : goal.returns-clause-any_moment
returns-clause-any_moment g c = λ told. open_leaves (g.D.Disk.moments c.args.disk.now) (g.D.Disk.moments c.from_disk.new.disk) (c.from_disk.ensures.any_moment told)

pub returns-clause-opens : goal.returns-clause-opens
returns-clause-opens g c = λ told.
    let old = g.D.Disk.moments c.args.disk.now in
    open_opens old (g.D.Disk.moments c.from_disk.new.disk) (reads_of old.now) (c.from_disk.ensures.opens told)

pub returns-clause-rests : goal.returns-clause-rests
returns-clause-rests g c = λ told healthy. (let rests = c.from_disk.ensures.rests told healthy in record { goes = rests.goes; same = search rules })

pub returns-clause-keeps : goal.returns-clause-keeps
returns-clause-keeps g c = λ told. c.in_ok-journal.ensures.held told ∙ c.in_ok-journal.ensures.payloads told

pub returns-clause-asks : goal.returns-clause-asks
returns-clause-asks g c = λ told.
    let reads = reads_of (g.D.Disk.moments c.args.disk.now).now in
    let journal = c.in_ok-journal.field-0.journal in
    let held = c.in_ok-held.held.payloads in
    let are = c.in_ok-held.ensures.payloads ∙ c.in_ok-journal.ensures.payloads told in
    (image_asks reads journal held (c.in_ok-journal.ensures.counts told) are, store_asks reads journal held (c.in_ok-journal.ensures.counts told) are)

pub returns-clause-in_step : goal.returns-clause-in_step
returns-clause-in_step g c = λ told. record {
  journal_in_step = c.in_ok-journal.ensures.in_step told;
  form = c.in_ok-journal.ensures.form;
  payloads_are = c.in_ok-held.ensures.payloads ∙ sym (c.in_ok-journal.ensures.held told);
}
