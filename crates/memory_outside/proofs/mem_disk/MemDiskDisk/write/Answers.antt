use Rattle.std.proofs.Common.{length, ap}
use Rattle.memory_outside.specs.Disks.{HeldDisk}
use Rattle.memory_outside.proofs.LogLemmas.{write_is_unchanged}
use Rattle.memory_outside.proofs.mem_disk.MemDiskDisk.write.Goals as goal

pub returns-in_default-clause-moments : goal.returns-in_default-clause-moments
returns-in_default-clause-moments c = write_is_unchanged c.args.side c.args.at (length c.args.bytes.now) c.args.self.now.log c.self.inside.log (ap (λ (d : HeldDisk). d.log) c.self.view_is)
