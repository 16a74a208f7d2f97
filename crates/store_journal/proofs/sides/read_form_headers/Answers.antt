use Rattle.outside.proofs.MomentLaws.{goes_then}
use Rattle.outside.specs.Disks.{Goes}
use Rattle.store_journal.proofs.sides.read_form_headers.Goals as goal

pub returns-in_err-sync-2-clause-moments : goal.returns-in_err-sync-2-clause-moments
returns-in_err-sync-2-clause-moments g c = λ told.
    let moments = g.D.Disk.moments in
    goes_then (moments c.args.disk.now).now (moments c.args.disk.now) (moments c.sync.new.self) (moments c.sync-2.new.self) (c.sync.ensures.moments told) (c.sync-2.ensures.moments told)

pub returns-in_err-a-clause-moments : goal.returns-in_err-a-clause-moments
returns-in_err-a-clause-moments g c = λ told.
    let moments = g.D.Disk.moments in
    let old = moments c.args.disk.now in
    let synced : Goes old.now old (moments c.sync-2.new.self) = goes_then old.now old (moments c.sync.new.self) (moments c.sync-2.new.self) (c.sync.ensures.moments told) (c.sync-2.ensures.moments told) in
    goes_then old.now old (moments c.sync-2.new.self) (moments c.read_header.new.disk) synced (c.read_header.ensures.moments told)

pub returns-in_err-b-clause-moments : goal.returns-in_err-b-clause-moments
returns-in_err-b-clause-moments g c = λ told.
    let moments = g.D.Disk.moments in
    let old = moments c.args.disk.now in
    let synced : Goes old.now old (moments c.sync-2.new.self) = goes_then old.now old (moments c.sync.new.self) (moments c.sync-2.new.self) (c.sync.ensures.moments told) (c.sync-2.ensures.moments told) in
    let first : Goes old.now old (moments c.read_header.new.disk) = goes_then old.now old (moments c.sync-2.new.self) (moments c.read_header.new.disk) synced (c.read_header.ensures.moments told) in
    goes_then old.now old (moments c.read_header.new.disk) (moments c.read_header-2.new.disk) first (c.read_header-2.ensures.moments told)

pub returns-clause-moments : goal.returns-clause-moments
returns-clause-moments g c = λ told.
    let moments = g.D.Disk.moments in
    let old = moments c.args.disk.now in
    let synced : Goes old.now old (moments c.sync-2.new.self) = goes_then old.now old (moments c.sync.new.self) (moments c.sync-2.new.self) (c.sync.ensures.moments told) (c.sync-2.ensures.moments told) in
    let first : Goes old.now old (moments c.read_header.new.disk) = goes_then old.now old (moments c.sync-2.new.self) (moments c.read_header.new.disk) synced (c.read_header.ensures.moments told) in
    goes_then old.now old (moments c.read_header.new.disk) (moments c.read_header-2.new.disk) first (c.read_header-2.ensures.moments told)
