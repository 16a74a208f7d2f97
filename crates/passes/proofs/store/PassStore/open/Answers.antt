use Rattle.std.proofs.Common.{◌≡◌, rules, List, ap, subst, sym, ◌∙◌}
use Rattle.outside.specs.Disks.{Goes, reads_of, settled_disk}
use Rattle.store_journal.specs.Payloads.{payloads}
use Rattle.store_journal.proofs.Losing.{reads_image}
use Rattle.passes_spec.specs.Passes.{IsAllOrLast, Pass}
use Rattle.passes_codec.specs.PassTables.{passes_among}
use Rattle.passes.specs.Stored.{HasCompacted, passes_in}
use Rattle.passes.proofs.PassMoments.{then_leaves, then_opens}
use Rattle.passes.proofs.store.PassStore.open.Goals as goal

pub compact_where_asked-requires-clause-in_step : goal.compact_where_asked-requires-clause-in_step
compact_where_asked-requires-clause-in_step g c = λ told. c.in_ok-journal.ensures.in_step told

pub returns-in-Err-clause-any_moment : goal.returns-in-Err-clause-any_moment
returns-in-Err-clause-any_moment g c = λ told.
    let old = g.D.Disk.moments c.args.disk.now in
    let same = ap passes_among (c.in_ok-journal.ensures.keeps told) in
    then_leaves old (g.D.Disk.moments c.read.new.disk) (g.D.Disk.moments c.compact_where_asked.new.disk) same (c.compact_where_asked.ensures.any_moment told) (reads_image old (g.met.D.Disk.sound c.args.disk.now)) (c.read.ensures.any_moment told)

pub returns-in-Err-clause-opens : goal.returns-in-Err-clause-opens
returns-in-Err-clause-opens g c = λ told.
    let same = ap passes_among (c.in_ok-journal.ensures.keeps told) in
    then_opens (g.D.Disk.moments c.args.disk.now) (g.D.Disk.moments c.read.new.disk) (g.D.Disk.moments c.compact_where_asked.new.disk) same (c.compact_where_asked.ensures.any_moment told) (c.read.ensures.opens told)

pub returns-in-Err-clause-rests : goal.returns-in-Err-clause-rests
returns-in-Err-clause-rests g c = λ told resting.
    let rests = c.read.ensures.rests told resting.healthy in
    let same = c.compact_where_asked.ensures.keeps told (λ asks. resting.unasked ((c.in_ok-journal.ensures.asks told).0 asks)) in
    record { goes = subst (λ disk. Goes (g.D.Disk.moments c.args.disk.now).now (g.D.Disk.moments c.args.disk.now) (g.D.Disk.moments disk)) (sym same) rests.goes; same = search rules }

pub returns-in-Ok-clause-any_moment : goal.returns-in-Ok-clause-any_moment
returns-in-Ok-clause-any_moment g c = λ told.
    let old = g.D.Disk.moments c.args.disk.now in
    let same = ap passes_among (c.in_ok-journal.ensures.keeps told) in
    then_leaves old (g.D.Disk.moments c.read.new.disk) (g.D.Disk.moments c.compact_where_asked.new.disk) same (c.compact_where_asked.ensures.any_moment told) (reads_image old (g.met.D.Disk.sound c.args.disk.now)) (c.read.ensures.any_moment told)

pub returns-in-Ok-clause-opens : goal.returns-in-Ok-clause-opens
returns-in-Ok-clause-opens g c = λ told.
    let same = ap passes_among (c.in_ok-journal.ensures.keeps told) in
    then_opens (g.D.Disk.moments c.args.disk.now) (g.D.Disk.moments c.read.new.disk) (g.D.Disk.moments c.compact_where_asked.new.disk) same (c.compact_where_asked.ensures.any_moment told) (c.read.ensures.opens told)

pub returns-in-Ok-clause-rests : goal.returns-in-Ok-clause-rests
returns-in-Ok-clause-rests g c = λ told resting.
    let rests = c.in_ok-journal.ensures.rests told resting.healthy in
    let same = c.compact_where_asked.ensures.keeps told (λ asks. resting.unasked ((c.in_ok-journal.ensures.asks told).0 asks)) in
    record {
      goes = subst (λ disk. Goes (g.D.Disk.moments c.args.disk.now).now (g.D.Disk.moments c.args.disk.now) (g.D.Disk.moments disk)) (sym same) rests.goes;
      same = subst (λ disk. (g.D.Disk.moments disk).now ≡ settled_disk (reads_of (g.D.Disk.moments c.args.disk.now).now)) (sym same) rests.same;
    }

pub returns-in-Ok-clause-passes : goal.returns-in-Ok-clause-passes
returns-in-Ok-clause-passes g c = λ told.
    subst (λ (ps : List Pass). IsAllOrLast ps (passes_in (reads_of (g.D.Disk.moments c.compact_where_asked.new.disk).now))) (ap passes_among (c.in_ok-journal.ensures.keeps told)) (c.in-Ok.ensures.passes told)

pub returns-in-Ok-clause-compacts : goal.returns-in-Ok-clause-compacts
returns-in-Ok-clause-compacts g c = λ told asks.
    subst (λ (ps : List Pass). HasCompacted ps (reads_of (g.D.Disk.moments c.compact_where_asked.new.disk).now)) (ap passes_among (c.in_ok-journal.ensures.keeps told))
    (c.in-Ok.ensures.compacts told ((c.in_ok-journal.ensures.asks told).1 asks))

pub returns-in-Ok-clause-keeps : goal.returns-in-Ok-clause-keeps
returns-in-Ok-clause-keeps g c = λ told unasked.
    ap (λ disk. payloads 5 (reads_of (g.D.Disk.moments disk).now)) (c.compact_where_asked.ensures.keeps told (λ asks. unasked ((c.in_ok-journal.ensures.asks told).0 asks))) ∙ c.in_ok-journal.ensures.keeps told
