use Rattle.std.proofs.Common.{rules}
use Rattle.outside.specs.Disks.{reads_of}
use Rattle.memory_outside.specs.Disks.{moments_of, moment_of, start_of, AreFilled}
use Rattle.memory_outside.proofs.CrashLemmas.{state_at_is, filled_disk_image}
use Rattle.memory_outside.proofs.mem_disk.MemDisk.crash.Goals as goal

pub returns-clause-moment : goal.returns-clause-moment
returns-clause-moment c = state_at_is c.args.self.now.log.kept c.args.moment (start_of c.args.self.now.log.first)

pub returns-clause-image : goal.returns-clause-image
returns-clause-image c =
    let filled : AreFilled (moment_of c.args.self.now.log c.args.moment) c.args.length c.args.fill (reads_of (moments_of c.in_ok-of.field-0).now) = search rules in
    filled_disk_image c.args.self.now.log c.args.moment c.args.length c.args.fill (reads_of (moments_of c.in_ok-of.field-0).now) filled
