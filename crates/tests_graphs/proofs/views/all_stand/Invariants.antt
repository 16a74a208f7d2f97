use Rattle.store_form_2.specs.Validity.{StandBelow}
use Rattle.tests_graphs.proofs.views.all_stand.Given as goal

abbrev pub invariant-loop-rank : goal.invariant-loop-rank
invariant-loop-rank l = StandBelow l.entries l.rank
