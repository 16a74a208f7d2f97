-- What the loop of `are_below` keeps: the positions so far are below the end.
use Rattle.std.proofs.Common.{ℕ, ◌<◌, get_or}
use Rattle.tests_vhdl.proofs.tests.edges.are_below.Given as goal

abbrev pub invariant-loop-i : goal.invariant-loop-i
invariant-loop-i l = (k : ℕ) → k < l.i → get_or l.deps k 0 < l.end
