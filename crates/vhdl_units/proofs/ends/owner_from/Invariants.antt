-- The names of an owner so far.
use Rattle.std.proofs.Common.{◌-◌, length}
use Rattle.vhdl_units.proofs.Walks.{OwnerSoFar}
use Rattle.vhdl_units.proofs.ends.owner_from.Given as goal

abbrev pub invariant-loop-at : goal.invariant-loop-at
invariant-loop-at l = OwnerSoFar l.roles l.from l.before l.at

abbrev pub decreases-loop-at : goal.decreases-loop-at
decreases-loop-at l = length l.roles - l.at
