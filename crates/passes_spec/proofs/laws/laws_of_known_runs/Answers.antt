use Rattle.passes_spec.proofs.KnownEnds.{known, all_known}
use Rattle.passes_spec.proofs.laws.laws_of_known_runs.Goals as goal

pub returns-clause-known : goal.returns-clause-known
returns-clause-known c answer passes all simulator built run output given = known answer passes all simulator built run output given

pub returns-clause-all : goal.returns-clause-all
returns-clause-all c answer passes all simulator built runs = all_known answer passes all simulator built runs
