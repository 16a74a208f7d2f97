-- What holds at each turn of the loop of `read_parts`: payloads were taken up to a commit byte, and nothing was written.
use Rattle.std.proofs.Common.{◌≡◌, ◌-◌, ◌≤◌, ◌<◌}
use Rattle.outside.specs.Disks.{Goes, side_of}
use Rattle.store_journal.specs.Windows.{AreReadTo, IsWindowOf}
use Rattle.store_journal.proofs.reading.read_parts.Given as goal

abbrev pub invariant-loop-count : goal.invariant-loop-count
invariant-loop-count g l = record {
  from : 18 ≤ l.commit_byte;
  to : l.commit_byte < l.fn.live.len;
  read : g.D.Disk.tells → AreReadTo (side_of l.fn.live.side (g.D.Disk.moments l.fn.disk).now).reads (g.T.Visitor.taken l.visitor) l.commit_byte;
  borrows : g.T.Visitor.borrows l.visitor ≡ g.T.Visitor.borrows l.fn.visitor;
  window : g.D.Disk.tells → IsWindowOf (side_of l.fn.live.side (g.D.Disk.moments l.fn.disk).now).reads l.window;
  same : g.D.Disk.tells → (g.D.Disk.moments l.disk).now ≡ (g.D.Disk.moments l.fn.disk).now;
  moments : g.D.Disk.tells → Goes (g.D.Disk.moments l.fn.disk).now (g.D.Disk.moments l.fn.disk) (g.D.Disk.moments l.disk);
  cause : g.D.Disk.failed_disk_calls l.disk ≡ g.D.Disk.failed_disk_calls l.fn.disk;
}

abbrev pub decreases-loop-count : goal.decreases-loop-count
decreases-loop-count g l = l.fn.live.len - l.commit_byte
