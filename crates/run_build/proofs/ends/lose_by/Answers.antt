-- Answers to the goals of `lose_by`.
use Rattle.std.proofs.Common.{◌++◌, [], ◌∷◌, Err, sym, subst}
use Rattle.outside.specs.declared.procs.WaitFault.{WaitFault}
use Rattle.outside.specs.Children.{end_event}
use Rattle.run_build.specs.UnderWay.{with_machine, IsUnderWay}
use Rattle.run_build.proofs.ends.lose_by.Goals as goal

pub returns-in-NoMemory-clause-goes : goal.returns-in-NoMemory-clause-goes
returns-in-NoMemory-clause-goes c = λ graph from events acknowledged state is.
    subst (λ (f : WaitFault). IsUnderWay graph from (events ++ end_event (Err f) ∷ []) acknowledged (with_machine c.lose.new.scheduler c.lose.new.first_fault state)) (sym c.in-NoMemory.is)
    (c.lose.ensures.goes graph from events acknowledged state is)

pub returns-in-Lost-clause-goes : goal.returns-in-Lost-clause-goes
returns-in-Lost-clause-goes c = λ graph from events acknowledged state is.
    subst (λ (f : WaitFault). IsUnderWay graph from (events ++ end_event (Err f) ∷ []) acknowledged (with_machine c.lose-in-Lost.new.scheduler c.lose-in-Lost.new.first_fault state)) (sym c.in-Lost.is)
    (c.lose-in-Lost.ensures.goes graph from events acknowledged state is)
