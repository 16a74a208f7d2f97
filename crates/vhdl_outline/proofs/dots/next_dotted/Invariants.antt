-- Passed over so far.
use Rattle.std.proofs.Common.{◌-◌}
use Rattle.vhdl_outline.specs.Dots.{HasPassed}
use Rattle.vhdl_outline.proofs.dots.next_dotted.Given as goal

abbrev pub invariant-loop-at : goal.invariant-loop-at
invariant-loop-at l = HasPassed l.roles l.from l.end l.at

abbrev pub decreases-loop-at : goal.decreases-loop-at
decreases-loop-at l = l.end - l.at
