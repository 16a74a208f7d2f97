use Rattle.tests_store.proofs.tests.pass_changes.keep_on.Goals as goal

pub keep_listed-requires-clause-in_step : goal.keep_listed-requires-clause-in_step
keep_listed-requires-clause-in_step g c = λ told. c.in_ok-store.ensures.in_step told
