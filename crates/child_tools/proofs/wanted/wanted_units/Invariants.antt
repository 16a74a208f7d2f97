-- Those of the units up to the number.
use Rattle.std.proofs.Common.{◌≡◌, take}
use Rattle.std.specs.List.{flat_map}
use Rattle.vhdl_spec.specs.References.{refs_of}
use Rattle.child_tools.specs.Exports.{strict_units}
use Rattle.child_tools.proofs.wanted.wanted_units.Given as goal

abbrev pub invariant-loop-number : goal.invariant-loop-number
invariant-loop-number l = l.units.items ≡ flat_map (λ unit. strict_units l.own (refs_of l.text l.scan.tokens.list unit)) (take l.number l.scan.units)
