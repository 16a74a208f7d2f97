use Rattle.outside.specs.Disks.{on_side, cutting}
use Rattle.outside.proofs.MomentLaws.{goes_then}
use Rattle.outside.proofs.durable.cut_durably.Goals as goal

pub returns-clause-moments : goal.returns-clause-moments
returns-clause-moments g c = λ told.
    let moments = g.D.Disk.moments in
    goes_then (on_side c.args.side cutting (moments c.args.disk.now).now) (moments c.args.disk.now) (moments c.cut.new.self) (moments c.sync.new.self) (c.cut.ensures.moments told) (c.sync.ensures.moments told)
