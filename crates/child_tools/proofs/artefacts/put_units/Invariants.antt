-- The lines of the units up to the index are put.
use Rattle.std.proofs.Common.{◌≡◌, ◌++◌, take}
use Rattle.std.specs.List.{flat_map}
use Rattle.child_tools.specs.Artefacts.{unit_line}
use Rattle.child_tools.proofs.artefacts.put_units.Given as goal

abbrev pub invariant-loop-unit : goal.invariant-loop-unit
invariant-loop-unit l = l.out.items ≡ l.initial.out.items ++ flat_map unit_line (take l.unit-index l.units)
