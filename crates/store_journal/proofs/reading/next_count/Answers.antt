use Rattle.std.proofs.Common.{arith, drop, length-drop}
use Rattle.outside.specs.Disks.{side_of}
use Rattle.store_journal.proofs.WindowLemmas.{short_none}
use Rattle.store_journal.proofs.reading.next_count.Goals as goal

pub returns-then-left-lt6-clause-is : goal.returns-then-left-lt6-clause-is
returns-then-left-lt6-clause-is g c = λ told.
    let reads = (side_of c.args.live.side (g.D.Disk.moments c.args.disk.now).now).reads in
    short_none (drop c.args.commit_byte reads) (omega (arith, length-drop c.args.commit_byte reads, c.requires.len told, c.if-left-lt6.true))
