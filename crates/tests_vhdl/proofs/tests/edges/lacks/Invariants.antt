-- What the loop of `lacks` keeps: the positions so far are others.
use Rattle.std.proofs.Common.{◌≢◌, ℕ, ◌<◌, get_or}
use Rattle.tests_vhdl.proofs.tests.edges.lacks.Given as goal

abbrev pub invariant-loop-i : goal.invariant-loop-i
invariant-loop-i l = (k : ℕ) → k < l.i → get_or l.deps k 0 ≢ l.file
