use Rattle.tests_graphs.proofs.Closings.{Goes}
use Rattle.tests_graphs.proofs.closed.all_cover.Given as goal

abbrev pub invariant-loop-k : goal.invariant-loop-k
invariant-loop-k l = Goes l.entries l.deps l.fn.state l.state l.k

abbrev pub decreases-loop-k : goal.decreases-loop-k
decreases-loop-k l = l.k
