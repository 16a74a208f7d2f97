use Rattle.std.proofs.Common.{length}
use Rattle.outside.specs.Disks.{on_side, writing}
use Rattle.outside.proofs.MomentLaws.{goes_then}
use Rattle.outside.proofs.durable.write_durably.Goals as goal

pub returns-clause-moments : goal.returns-clause-moments
returns-clause-moments g c = λ told.
    let moments = g.D.Disk.moments in
    goes_then (on_side c.args.side (writing c.args.at (length c.args.bytes.now)) (moments c.args.disk.now).now) (moments c.args.disk.now) (moments c.write.new.self) (moments c.sync.new.self) (c.write.ensures.moments told) (c.sync.ensures.moments told)
