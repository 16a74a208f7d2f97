-- So far those of the units up to the index are there.
use Rattle.std.proofs.Common.{take}
use Rattle.std.specs.List.{flat_map}
use Rattle.vhdl_scope.specs.Names.{HasAll, keys_of}
use Rattle.vhdl_scope.proofs.names.add_units.Given as goal

abbrev pub invariant-loop-unit : goal.invariant-loop-unit
invariant-loop-unit l = HasAll (flat_map (λ unit. unit.names) (take l.unit-index l.units)) (keys_of l.initial.names) (keys_of l.names)
