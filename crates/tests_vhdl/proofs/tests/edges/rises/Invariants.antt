-- What the loop of `rises` keeps: the positions so far rise.
use Rattle.std.proofs.Common.{ℕ, ◌+◌, ◌<◌, get_or}
use Rattle.tests_vhdl.proofs.tests.edges.rises.Given as goal

abbrev pub invariant-loop-i : goal.invariant-loop-i
invariant-loop-i l = (k : ℕ) → k + 1 < l.i → get_or l.deps k 0 < get_or l.deps (k + 1) 0
