use Rattle.tests_store.proofs.PassSteps.{listed_in_step}
use Rattle.tests_store.proofs.tests.pass_changes.keep_listed.Goals as goal

pub keep-requires-clause-in_step : goal.keep-requires-clause-in_step
keep-requires-clause-in_step g c = λ told. listed_in_step _ _ _ c.start_list.ensures.payloads c.start_list.ensures.journal (c.requires.in_step told)
