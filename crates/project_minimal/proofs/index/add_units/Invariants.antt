-- The units up to the index were added.
use Rattle.std.proofs.Common.{take}
use Rattle.project_minimal.specs.Suppliers.{AddsAll}
use Rattle.project_minimal.proofs.index.add_units.Given as goal

abbrev pub invariant-loop-unit : goal.invariant-loop-unit
invariant-loop-unit l = AddsAll l.library (take l.unit-index l.units) l.file l.count l.initial.index l.index
