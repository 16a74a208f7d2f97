use Rattle.tests_store.proofs.tests.journals.with_ab.Goals as goal

pub returns-clause-in_step : goal.returns-clause-in_step
returns-clause-in_step c = c.in_ok-commit.ensures.in_step tt
