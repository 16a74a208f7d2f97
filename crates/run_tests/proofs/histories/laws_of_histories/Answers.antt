-- Answers to the goals of `laws_of_histories`.
use Rattle.run_tests.proofs.TestedRights.{tests_right}
use Rattle.run_tests.proofs.HistorySteps.{all_right, all_right_from_empty, all_spare, stopped_spares, since_spares, joined}
use Rattle.run_tests.proofs.histories.laws_of_histories.Goals as goal

pub returns-clause-right : goal.returns-clause-right
returns-clause-right c = λ world sources disk steps. all_right world steps sources disk

pub returns-clause-from_empty : goal.returns-clause-from_empty
returns-clause-from_empty c = λ world sources steps. all_right_from_empty world steps sources

pub returns-clause-spares : goal.returns-clause-spares
returns-clause-spares c = λ world sources disk steps name kept. all_spare world name kept steps sources disk

pub returns-clause-stopped : goal.returns-clause-stopped
returns-clause-stopped c = stopped_spares

pub returns-clause-stopped_since : goal.returns-clause-stopped_since
returns-clause-stopped_since c = since_spares

pub returns-clause-joined : goal.returns-clause-joined
returns-clause-joined c = λ world sources disk steps more. joined world more steps sources disk

pub returns-clause-tests : goal.returns-clause-tests
returns-clause-tests c = tests_right
