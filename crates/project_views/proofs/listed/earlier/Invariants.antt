-- What the loops of `earlier` keep, and why they end.
use Rattle.std.proofs.Common.{◌≡◌}
use Rattle.base.specs.PresentGraph.{below}
use Rattle.project_views.proofs.listed.earlier.Given as goal

abbrev pub invariant-loop-dep : goal.invariant-loop-dep
invariant-loop-dep l = l.positions ≡ below l.dep
