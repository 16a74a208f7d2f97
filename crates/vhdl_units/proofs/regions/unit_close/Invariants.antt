-- What the walk through a unit keeps.
use Rattle.std.proofs.Common.{length, ◌-◌}
use Rattle.vhdl_units.proofs.Reaching.{Walked}
use Rattle.vhdl_units.proofs.regions.unit_close.Given as goal

abbrev pub invariant-loop-at : goal.invariant-loop-at
invariant-loop-at l = Walked l.roles l.start l.regions.frames.items l.regions.inside l.known l.at

abbrev pub decreases-loop-at : goal.decreases-loop-at
decreases-loop-at l = length l.roles - l.at
