-- Answers to the goals of `lose_by`.
use Rattle.std.proofs.Common.{◌++◌, [], ◌∷◌, Err, sym, subst}
use Rattle.std.specs.Prelude.{is_some}
use Rattle.outside.specs.declared.procs.WaitFault.{WaitFault}
use Rattle.outside.specs.Children.{end_event}
use Rattle.run_tests.specs.UnderWay.{AreUnderWay}
use Rattle.run_tests.proofs.ends.lose_by.Goals as goal

pub returns-in-NoMemory-clause-goes : goal.returns-in-NoMemory-clause-goes
returns-in-NoMemory-clause-goes c = λ setting events found is.
    subst (λ (f : WaitFault). AreUnderWay setting (events ++ end_event (Err f) ∷ []) c.lose.new.scheduler found (is_some c.lose.new.first_fault)) (sym c.in-NoMemory.is) (c.lose.ensures.goes setting events found is)

pub returns-in-Lost-clause-goes : goal.returns-in-Lost-clause-goes
returns-in-Lost-clause-goes c = λ setting events found is.
    subst (λ (f : WaitFault). AreUnderWay setting (events ++ end_event (Err f) ∷ []) c.lose-in-Lost.new.scheduler found (is_some c.lose-in-Lost.new.first_fault)) (sym c.in-Lost.is) (c.lose-in-Lost.ensures.goes setting events found is)
