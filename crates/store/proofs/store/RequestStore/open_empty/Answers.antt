use Rattle.std.proofs.Common.{map, ap, sym, ◌∙◌}
use Rattle.base.specs.declared.graph.Entry.{Entry}
use Rattle.outside.specs.Disks.{reads_of}
use Rattle.store_codec.specs.RecordTables.{requests_among}
use Rattle.store.specs.StoreLaws.{live_requests}
use Rattle.store.proofs.RequestsAdded.{latest_none, none_among}
use Rattle.store.proofs.RequestMoments.{empty_loses, empty_opens}
use Rattle.store.proofs.Borrowed.{all_borrowed}
use Rattle.store.proofs.OnAny.{on_ok_any, still_in_step, still_none, still_usable}
use Rattle.store.proofs.store.RequestStore.open_empty.Goals as goal

pub returns-in_err-journal-clause-opens : goal.returns-in_err-journal-clause-opens
returns-in_err-journal-clause-opens g c = λ told. empty_opens c.open_empty.result (g.D.Disk.moments c.args.disk.now) (g.D.Disk.moments c.open_empty.new.disk) (c.open_empty.ensures.opens told)

pub returns-in_err-journal-clause-loses : goal.returns-in_err-journal-clause-loses
returns-in_err-journal-clause-loses g c = λ told. empty_loses c.open_empty.result (g.D.Disk.moments c.args.disk.now) (g.D.Disk.moments c.open_empty.new.disk) (c.open_empty.ensures.opens told)

pub returns-in_err-held-clause-opens : goal.returns-in_err-held-clause-opens
returns-in_err-held-clause-opens g c = λ told. empty_opens c.open_empty.result (g.D.Disk.moments c.args.disk.now) (g.D.Disk.moments c.open_empty.new.disk) (c.open_empty.ensures.opens told)

pub returns-in_err-held-clause-loses : goal.returns-in_err-held-clause-loses
returns-in_err-held-clause-loses g c = λ told. empty_loses c.open_empty.result (g.D.Disk.moments c.args.disk.now) (g.D.Disk.moments c.open_empty.new.disk) (c.open_empty.ensures.opens told)

pub returns-clause-opens : goal.returns-clause-opens
returns-clause-opens g c = λ told. empty_opens c.open_empty.result (g.D.Disk.moments c.args.disk.now) (g.D.Disk.moments c.open_empty.new.disk) (c.open_empty.ensures.opens told)

pub returns-clause-loses : goal.returns-clause-loses
returns-clause-loses g c = λ told. empty_loses c.open_empty.result (g.D.Disk.moments c.args.disk.now) (g.D.Disk.moments c.open_empty.new.disk) (c.open_empty.ensures.opens told)

pub looked_up-requires-clause-borrowed : goal.looked_up-requires-clause-borrowed
looked_up-requires-clause-borrowed g c = all_borrowed c.args.graph.now c.in_ok-held.held.borrowed (c.in_ok-held.ensures.borrowed ∙ c.over.ensures.borrowed ∙ ap (map (λ (f : Entry). f.text)) c.as_slice.ensures.entries)

pub returns-clause-none : goal.returns-clause-none
returns-clause-none g c = λ told. on_ok_any c.looked_up.result
    (live_requests (reads_of (g.D.Disk.moments c.open_empty.new.disk).now) (c.in_ok-journal.ensures.live told) ∙ ap requests_among (c.in_ok-journal.ensures.emptied told) ∙ none_among)

pub returns-clause-latest : goal.returns-clause-latest
returns-clause-latest g c = still_none c.looked_up.result _ c.looked_up.ensures.held (λ name. latest_none c.in_ok-held.held.payloads name (c.in_ok-held.ensures.payloads ∙ c.over.ensures.taken))

pub returns-clause-in_step : goal.returns-clause-in_step
returns-clause-in_step g c = λ told. still_in_step c.looked_up.result _ _ _ c.looked_up.ensures.journal c.looked_up.ensures.held (record {
  journal_in_step = c.in_ok-journal.ensures.in_step told;
  form = c.in_ok-journal.ensures.form;
  payloads_are = c.in_ok-held.ensures.payloads ∙ c.over.ensures.taken ∙ sym (c.in_ok-journal.ensures.emptied told);
})

pub returns-clause-usable : goal.returns-clause-usable
returns-clause-usable g c = still_usable c.looked_up.result c.in_ok-journal.journal c.looked_up.ensures.journal c.in_ok-journal.ensures.usable
