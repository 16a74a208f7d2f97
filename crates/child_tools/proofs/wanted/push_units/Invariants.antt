-- The units named by the references before the index are added.
use Rattle.std.proofs.Common.{◌≡◌, ◌++◌, take}
use Rattle.child_tools.specs.Exports.{strict_units}
use Rattle.child_tools.proofs.wanted.push_units.Given as goal

abbrev pub invariant-loop-reference : goal.invariant-loop-reference
invariant-loop-reference l = l.units.items ≡ l.initial.units.items ++ strict_units l.own (take l.reference-index l.refs)
