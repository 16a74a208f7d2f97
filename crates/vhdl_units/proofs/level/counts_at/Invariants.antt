-- The parentheses so far.
use Rattle.vhdl_units.specs.Walk.{AreCounts}
use Rattle.vhdl_units.proofs.level.counts_at.Given as goal

abbrev pub invariant-loop-at : goal.invariant-loop-at
invariant-loop-at l = AreCounts l.roles l.start l.at l.counts
