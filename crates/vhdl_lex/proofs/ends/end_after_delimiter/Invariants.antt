-- The furthest end so far, and where the walk goes on.
use Rattle.std.proofs.Common.{length, ◌-◌}
use Rattle.vhdl_lex.proofs.Delimited.{Walk}
use Rattle.vhdl_lex.proofs.ends.end_after_delimiter.Given as goal

abbrev pub invariant-loop-close : goal.invariant-loop-close
invariant-loop-close l = Walk l.delimiter l.text l.at l.close l.end

abbrev pub decreases-loop-close : goal.decreases-loop-close
decreases-loop-close l = length l.text - l.close
