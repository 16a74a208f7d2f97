use Rattle.std.proofs.Common.{◌≡◌, ◌<◌, ℕ, length, get_or}
use Rattle.memory_outside.specs.Disks.{filled_byte}
use Rattle.memory_outside.proofs.side_writes.SideWrites.image.Given as goal

abbrev pub invariant-loop-k : goal.invariant-loop-k
invariant-loop-k l = record { size : length l.bytes.items ≡ l.k; bytes_are : (j : ℕ) → j < l.k → get_or l.bytes.items j 0 ≡ filled_byte l.self l.fill j }
