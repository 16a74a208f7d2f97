use Rattle.std.proofs.Common.{◌≡◌, rules, List, ap, subst, sym, ◌∙◌}
use Rattle.base.specs.declared.graph.Entry.{Entry}
use Rattle.outside.specs.Disks.{Goes, reads_of, settled_disk}
use Rattle.outside.specs.Records.{Record as RequestRecord}
use Rattle.store.specs.Held.{AreBorrowedBy}
use Rattle.store.specs.Stored.{AreAllOrLatest, HasCompactedOver, kept_payloads, own_requests, requests_in, store_of}
use Rattle.store.proofs.OnAny.{on_ok_any, still_in_step, still_borrowed}
use Rattle.store_journal.proofs.Losing.{reads_image}
use Rattle.store.proofs.RequestMoments.{all_moments, own_all, then_leaves, then_opens}
use Rattle.store.proofs.store.RequestStore.open.Goals as goal

pub returns-clause-any_moment : goal.returns-clause-any_moment
returns-clause-any_moment g c = λ told.
    let old = g.D.Disk.moments c.args.disk.now in
    let middle = g.D.Disk.moments c.read.new.disk in
    let new = g.D.Disk.moments c.compact_where_asked.new.disk in
    let goes_on = all_moments middle new (store_of c.in_ok-journal.field-0.journal c.in_ok-journal.field-0.held) (c.in_ok-journal.ensures.in_step told) (c.compact_where_asked.ensures.live told) (c.compact_where_asked.ensures.any_moment told) in
    then_leaves old middle new (c.in_ok-journal.ensures.records told) goes_on (reads_image old (g.met.D.Disk.sound c.args.disk.now)) (c.read.ensures.any_moment told)

pub returns-clause-opens : goal.returns-clause-opens
returns-clause-opens g c = λ told.
    let middle = g.D.Disk.moments c.read.new.disk in
    let new = g.D.Disk.moments c.compact_where_asked.new.disk in
    let goes_on = all_moments middle new (store_of c.in_ok-journal.field-0.journal c.in_ok-journal.field-0.held) (c.in_ok-journal.ensures.in_step told) (c.compact_where_asked.ensures.live told) (c.compact_where_asked.ensures.any_moment told) in
    then_opens (g.D.Disk.moments c.args.disk.now) middle new (c.in_ok-journal.ensures.records told) goes_on (c.read.ensures.opens told)

pub returns-in-Ok-clause-any_moment : goal.returns-in-Ok-clause-any_moment
returns-in-Ok-clause-any_moment g c = λ told.
    let old = g.D.Disk.moments c.args.disk.now in
    let middle = g.D.Disk.moments c.read.new.disk in
    let new = g.D.Disk.moments c.compact_where_asked.new.disk in
    let goes_on = all_moments middle new (store_of c.in_ok-journal.field-0.journal c.in_ok-journal.field-0.held) (c.in_ok-journal.ensures.in_step told) (c.compact_where_asked.ensures.live told) (c.compact_where_asked.ensures.any_moment told) in
    then_leaves old middle new (c.in_ok-journal.ensures.records told) goes_on (reads_image old (g.met.D.Disk.sound c.args.disk.now)) (c.read.ensures.any_moment told)

pub returns-in-Ok-clause-opens : goal.returns-in-Ok-clause-opens
returns-in-Ok-clause-opens g c = λ told.
    let middle = g.D.Disk.moments c.read.new.disk in
    let new = g.D.Disk.moments c.compact_where_asked.new.disk in
    let goes_on = all_moments middle new (store_of c.in_ok-journal.field-0.journal c.in_ok-journal.field-0.held) (c.in_ok-journal.ensures.in_step told) (c.compact_where_asked.ensures.live told) (c.compact_where_asked.ensures.any_moment told) in
    then_opens (g.D.Disk.moments c.args.disk.now) middle new (c.in_ok-journal.ensures.records told) goes_on (c.read.ensures.opens told)

pub returns-in-Ok-clause-records : goal.returns-in-Ok-clause-records
returns-in-Ok-clause-records g c = λ told.
    let middle = (g.D.Disk.moments c.read.new.disk).now in
    let new = (g.D.Disk.moments c.compact_where_asked.new.disk).now in
    let before = own_all (store_of c.in_ok-journal.field-0.journal c.in_ok-journal.field-0.held) middle (c.in_ok-journal.ensures.in_step told) in
    let after = own_all (store_of c.compact_where_asked.new.journal c.compact_where_asked.new.held) new (c.in-Ok.ensures.in_step told) in
    on_ok_any c.looked_up.result
    (subst (λ (rs : List RequestRecord). AreAllOrLatest rs (requests_in (reads_of (g.D.Disk.moments c.compact_where_asked.new.disk).now))) (sym before ∙ c.in_ok-journal.ensures.records told)
    (subst (λ (rs : List RequestRecord). AreAllOrLatest (own_requests (reads_of (g.D.Disk.moments c.read.new.disk).now)) rs) (sym after) (c.in-Ok.ensures.records told)))

pub returns-in-Ok-clause-compacts : goal.returns-in-Ok-clause-compacts
returns-in-Ok-clause-compacts g c = λ told asks.
    let middle = (g.D.Disk.moments c.read.new.disk).now in
    let before = own_all (store_of c.in_ok-journal.field-0.journal c.in_ok-journal.field-0.held) middle (c.in_ok-journal.ensures.in_step told) in
    on_ok_any c.looked_up.result
    (subst (λ (rs : List RequestRecord). HasCompactedOver rs (reads_of (g.D.Disk.moments c.compact_where_asked.new.disk).now)) (sym before ∙ c.in_ok-journal.ensures.records told)
    (c.in-Ok.ensures.compacts told ((c.in_ok-journal.ensures.asks told).1 asks)))

pub returns-in-Ok-clause-keeps : goal.returns-in-Ok-clause-keeps
returns-in-Ok-clause-keeps g c = λ told unasked.
    on_ok_any c.looked_up.result
    (ap (λ disk. kept_payloads (reads_of (g.D.Disk.moments disk).now)) (c.compact_where_asked.ensures.keeps told (λ asks. unasked ((c.in_ok-journal.ensures.asks told).0 asks))) ∙ c.in_ok-journal.ensures.keeps told)

pub compact_where_asked-requires-clause-in_step : goal.compact_where_asked-requires-clause-in_step
compact_where_asked-requires-clause-in_step g c = λ told. c.in_ok-journal.ensures.in_step told

pub returns-clause-rests : goal.returns-clause-rests
returns-clause-rests g c = λ told resting.
    let rests = c.read.ensures.rests told resting.healthy in
    let same = c.compact_where_asked.ensures.keeps told (λ asks. resting.unasked ((c.in_ok-journal.ensures.asks told).0 asks)) in
    record { goes = subst (λ disk. Goes (g.D.Disk.moments c.args.disk.now).now (g.D.Disk.moments c.args.disk.now) (g.D.Disk.moments disk)) (sym same) rests.goes; same = search rules }

pub looked_up-requires-clause-borrowed : goal.looked_up-requires-clause-borrowed
looked_up-requires-clause-borrowed g c = c.in-Ok.ensures.borrowed c.args.graph.now (subst (λ (files : List Entry). AreBorrowedBy files c.in_ok-journal.field-0.held.borrowed) c.as_slice.ensures.entries c.in_ok-journal.ensures.borrowed)

pub returns-in-Ok-clause-rests : goal.returns-in-Ok-clause-rests
returns-in-Ok-clause-rests g c = λ told resting.
    let rests = c.in_ok-journal.ensures.rests told resting.healthy in
    let same = c.compact_where_asked.ensures.keeps told (λ asks. resting.unasked ((c.in_ok-journal.ensures.asks told).0 asks)) in
    record {
      goes = subst (λ disk. Goes (g.D.Disk.moments c.args.disk.now).now (g.D.Disk.moments c.args.disk.now) (g.D.Disk.moments disk)) (sym same) rests.goes;
      same = on_ok_any c.looked_up.result (subst (λ disk. (g.D.Disk.moments disk).now ≡ settled_disk (reads_of (g.D.Disk.moments c.args.disk.now).now)) (sym same) rests.same);
    }

pub returns-in-Ok-clause-in_step : goal.returns-in-Ok-clause-in_step
returns-in-Ok-clause-in_step g c = λ told. still_in_step c.looked_up.result _ _ _ c.looked_up.ensures.journal c.looked_up.ensures.held (c.in-Ok.ensures.in_step told)

pub returns-in-Ok-clause-settled : goal.returns-in-Ok-clause-settled
returns-in-Ok-clause-settled g c = λ told. on_ok_any c.looked_up.result (c.in-Ok.ensures.settled told)

pub returns-in-Ok-clause-borrowed : goal.returns-in-Ok-clause-borrowed
returns-in-Ok-clause-borrowed g c = still_borrowed c.looked_up.result _ c.args.graph.now c.looked_up.ensures.held
    (c.in-Ok.ensures.borrowed c.args.graph.now (subst (λ (files : List Entry). AreBorrowedBy files c.in_ok-journal.field-0.held.borrowed) c.as_slice.ensures.entries c.in_ok-journal.ensures.borrowed))
