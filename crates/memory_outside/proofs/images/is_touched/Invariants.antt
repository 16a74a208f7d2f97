use Rattle.std.proofs.Common.{◌≡◌, drop}
use Rattle.outside.specs.Disks.{is_touched}
use Rattle.memory_outside.proofs.images.is_touched.Given as goal

abbrev pub invariant-loop-at : goal.invariant-loop-at
invariant-loop-at l = is_touched (drop l.at-index l.writes) l.position ≡ is_touched l.writes l.position
