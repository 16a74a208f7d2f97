use Rattle.std.proofs.Common.{◌≡◌, drop}
use Rattle.memory_outside.specs.Disks.{state_at, start_of}
use Rattle.memory_outside.proofs.disk_log.DiskLog.sides_at.Given as goal

abbrev pub invariant-loop-kept : goal.invariant-loop-kept
invariant-loop-kept l = state_at (drop l.kept-index l.kept-items) l.moment l.sides ≡ state_at l.self.kept l.moment (start_of l.self.first)
