use Rattle.tests_store.proofs.tests.pass_projects.keep_on.Goals as goal

pub keep-requires-clause-in_step : goal.keep-requires-clause-in_step
keep-requires-clause-in_step g c = λ told. c.in_ok-store.ensures.in_step told
