use Rattle.tests_graphs.specs.Validity.{IsSeen}
use Rattle.tests_graphs.proofs.closed.visited_flags.Given as goal

abbrev pub invariant-loop-dep : goal.invariant-loop-dep
invariant-loop-dep l = IsSeen l.deps l.count l.state.items l.dep-index
