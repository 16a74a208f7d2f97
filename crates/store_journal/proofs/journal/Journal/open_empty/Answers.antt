use Rattle.std.proofs.Common.{◌≡◌, Some, false, inl, inr, sym, ap, subst}
use Rattle.outside.specs.Disks.{Image, reads_of}
use Rattle.store_journal.specs.Forms.{EmptiesSides, found_form, has_form}
use Rattle.store_journal.specs.Payloads.{counting}
use Rattle.store_journal.proofs.Counted.{neither_live}
use Rattle.store_journal.proofs.journal.Journal.open_empty.Given as given
use Rattle.store_journal.proofs.journal.Journal.open_empty.Goals as goal

pub returns-in_err-headers-clause-opens : goal.returns-in_err-headers-clause-opens
returns-in_err-headers-clause-opens g c = λ told. inl (c.read_form_headers.ensures.moments told)

pub empty_dead-requires-clause-none : goal.empty_dead-requires-clause-none
empty_dead-requires-clause-none g c = λ told.
    let reads = reads_of (g.D.Disk.moments c.args.disk.now).now in
    let neither = neither_live c.args.newer c.args.older reads (c.in-None.ensures c.args.newer c.args.older reads (c.in_ok-headers.ensures.newer told) (c.in_ok-headers.ensures.older told)) in
    subst (λ (image : Image). has_form c.args.newer image ≡ false) (sym (ap reads_of (c.in_ok-headers.ensures.settled told))) neither.0

where_none : (g : given.Over) (c : goal.After-empty_dead g) → g.D.Disk.tells → EmptiesSides c.args.newer c.args.older c.empty_dead.result (g.D.Disk.moments c.read_form_headers.new.disk) (g.D.Disk.moments c.empty_dead.new.disk)
where_none g c told =
    let reads = reads_of (g.D.Disk.moments c.args.disk.now).now in
    let neither = neither_live c.args.newer c.args.older reads (c.in-None.ensures c.args.newer c.args.older reads (c.in_ok-headers.ensures.newer told) (c.in_ok-headers.ensures.older told)) in
    c.empty_dead.ensures.emptied told c.args.older (subst (λ (image : Image). has_form c.args.older image ≡ false) (sym (ap reads_of (c.in_ok-headers.ensures.settled told))) neither.1)

pub returns-in-None-clause-opens : goal.returns-in-None-clause-opens
returns-in-None-clause-opens g c = λ told.
    inr (g.D.Disk.moments c.read_form_headers.new.disk, c.read_form_headers.ensures.moments told, c.in_ok-headers.ensures.settled told, where_none g c told)

pub returns-in-None-clause-emptied : goal.returns-in-None-clause-emptied
returns-in-None-clause-emptied g c = λ told. (where_none g c told).emptied

pub returns-in-None-clause-live : goal.returns-in-None-clause-live
returns-in-None-clause-live g c = λ told. (where_none g c told).live

pub returns-in-None-clause-in_step : goal.returns-in-None-clause-in_step
returns-in-None-clause-in_step g c = λ told. (where_none g c told).in_step

where_one : (g : given.Over) (c : goal.After-empty_live g) → g.D.Disk.tells → EmptiesSides c.args.newer c.args.older c.empty_live.result (g.D.Disk.moments c.read_form_headers.new.disk) (g.D.Disk.moments c.empty_live.new.disk)
where_one g c told =
    let reads = reads_of (g.D.Disk.moments c.args.disk.now).now in
    let found = c.in-Some.ensures c.args.newer c.args.older reads (c.in_ok-headers.ensures.newer told) (c.in_ok-headers.ensures.older told) in
    c.empty_live.ensures.emptied told c.args.older (subst (λ (image : Image). counting (found_form c.args.newer c.args.older image) image ≡ Some c.in-Some.live.side) (sym (ap reads_of (c.in_ok-headers.ensures.settled told))) found.counts)

pub returns-in-Some-clause-opens : goal.returns-in-Some-clause-opens
returns-in-Some-clause-opens g c = λ told.
    inr (g.D.Disk.moments c.read_form_headers.new.disk, c.read_form_headers.ensures.moments told, c.in_ok-headers.ensures.settled told, where_one g c told)

pub returns-in-Some-clause-emptied : goal.returns-in-Some-clause-emptied
returns-in-Some-clause-emptied g c = λ told. (where_one g c told).emptied

pub returns-in-Some-clause-live : goal.returns-in-Some-clause-live
returns-in-Some-clause-live g c = λ told. (where_one g c told).live

pub returns-in-Some-clause-in_step : goal.returns-in-Some-clause-in_step
returns-in-Some-clause-in_step g c = λ told. (where_one g c told).in_step
