-- The units up to the index are wanted.
use Rattle.std.proofs.Common.{take}
use Rattle.child_tools.proofs.MissingLemmas.{AreWanted}
use Rattle.child_tools.proofs.exports.units_to_find.Given as goal

abbrev pub invariant-loop-unit : goal.invariant-loop-unit
invariant-loop-unit l = AreWanted (take l.unit-index l.units) l.flags
