use Rattle.outside.proofs.MomentLaws.{goes_then}
use Rattle.store_journal.proofs.reading.read_payloads.Goals as goal

pub returns-in_err-is_open-clause-moments : goal.returns-in_err-is_open-clause-moments
returns-in_err-is_open-clause-moments g c = λ told.
    let moments = g.D.Disk.moments in
    goes_then (moments c.args.disk.now).now (moments c.args.disk.now) (moments c.read_parts.new.disk) (moments c.is_open.new.disk) (c.read_parts.ensures.moments told) (c.is_open.ensures.moments told)

pub returns-clause-moments : goal.returns-clause-moments
returns-clause-moments g c = λ told.
    let moments = g.D.Disk.moments in
    goes_then (moments c.args.disk.now).now (moments c.args.disk.now) (moments c.read_parts.new.disk) (moments c.is_open.new.disk) (c.read_parts.ensures.moments told) (c.is_open.ensures.moments told)
