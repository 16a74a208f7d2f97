-- Nothing is in the set, nor in the list.
use Rattle.std.proofs.Common.{refl}
use Rattle.project_minimal.proofs.TakingLemmas.{none_are}
use Rattle.project_minimal.proofs.taken.none_taken.Goals as goal

pub returns-clause-are : goal.returns-clause-are
returns-clause-are c = λ count. none_are count _ c.new-set.ensures c.new-list.ensures.items refl
