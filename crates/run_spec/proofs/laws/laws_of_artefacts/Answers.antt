-- Answers to the goals of `laws_of_artefacts`.
use Rattle.run_spec.proofs.Artefacts.{so_far_stays, so_far_below, stepwise}
use Rattle.run_spec.proofs.laws.laws_of_artefacts.Goals as goal

pub returns-clause-stays : goal.returns-clause-stays
returns-clause-stays c = so_far_stays

pub returns-clause-below : goal.returns-clause-below
returns-clause-below c = so_far_below

pub returns-clause-stepwise : goal.returns-clause-stepwise
returns-clause-stepwise c = stepwise
