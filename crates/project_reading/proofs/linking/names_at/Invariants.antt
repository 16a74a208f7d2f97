use Rattle.std.proofs.Common.{◌≡◌, take}
use Rattle.project_reading.specs.Reading.{names_at}
use Rattle.project_reading.proofs.linking.names_at.Given as goal

abbrev pub invariant-loop-position : goal.invariant-loop-position
invariant-loop-position l = l.names ≡ names_at l.files (take l.position-index l.positions)
