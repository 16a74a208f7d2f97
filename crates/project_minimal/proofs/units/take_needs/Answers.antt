-- What the file depends on itself, and what its units need.
use Rattle.project_minimal.specs.MinimalSet.{needs}
use Rattle.project_minimal.proofs.Supplied.{needs_are}
use Rattle.project_minimal.proofs.TakingLemmas.{takes_on}
use Rattle.project_minimal.proofs.units.take_needs.Goals as goal

pub returns-clause-takes : goal.returns-clause-takes
returns-clause-takes c = λ said known edges.
    takes_on _ _ (needs said c.args.file) c.args.taken.now c.take_used.new.taken c.take_units.new.taken c.in_ok-take_used.ensures.takes (c.in_ok-take_units.ensures.takes said known) (λ at. needs_are said _ c.args.file at edges)
