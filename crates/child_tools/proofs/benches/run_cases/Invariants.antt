-- From here on the cases give the whole answer.
use Rattle.std.proofs.Common.{◌≡◌, [], drop}
use Rattle.child_tools.specs.Benches.{cases_from}
use Rattle.child_tools.proofs.benches.run_cases.Given as goal

abbrev pub invariant-loop-name : goal.invariant-loop-name
invariant-loop-name l = cases_from l.job l.results.items (drop l.name-index l.name-items) ≡ cases_from l.job [] l.name-items
