-- What the units up to the number name.
use Rattle.std.proofs.Common.{◌≡◌, map, take}
use Rattle.vhdl_outline.specs.Outlines.{scope_of}
use Rattle.vhdl_outline.proofs.outlines.scopes_of_units.Given as goal

abbrev pub invariant-loop-number : goal.invariant-loop-number
invariant-loop-number l = l.scopes.items ≡ map (scope_of l.text l.scan) (take l.number l.scan.units)
