use Rattle.tests_store.proofs.tests.changes.seen_on.Goals as goal

pub seen_after-requires-clause-in_step : goal.seen_after-requires-clause-in_step
seen_after-requires-clause-in_step g c = λ told. c.in_ok-store.ensures.in_step told
