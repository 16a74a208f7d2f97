-- What the loops of `renumbered` keep, and why they end.
use Rattle.std.proofs.Common.{◌≡◌, map, take}
use Rattle.std.specs.Prelude.{slice_index}
use Rattle.project_minimal.proofs.parts.renumber.Given as goal

abbrev pub invariant-loop-position : goal.invariant-loop-position
invariant-loop-position l = l.numbers ≡ map (slice_index l.table) (take l.position-index l.positions)
