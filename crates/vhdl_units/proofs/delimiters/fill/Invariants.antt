-- What the way from the right has found so far.
use Rattle.vhdl_units.proofs.DelimiterTable.{Filled}
use Rattle.vhdl_units.proofs.delimiters.fill.Given as goal

abbrev pub invariant-loop-at : goal.invariant-loop-at
invariant-loop-at l = Filled l.roles l.nearest l.delimiters l.level l.at

abbrev pub decreases-loop-at : goal.decreases-loop-at
decreases-loop-at l = l.at
