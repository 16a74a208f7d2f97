use Rattle.std.proofs.Common.{◌≡◌, length}
use Rattle.system_files.proofs.reading.drain.Given as goal

abbrev pub invariant-loop : goal.invariant-loop
invariant-loop g l = length l.buffer ≡ length l.initial.buffer
