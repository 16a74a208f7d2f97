use Rattle.tests_store.proofs.PassSteps.{listed_in_step}
use Rattle.tests_store.proofs.tests.pass_projects.keep.Goals as goal

pub record-requires-clause-in_step : goal.record-requires-clause-in_step
record-requires-clause-in_step g c = λ told. listed_in_step _ _ _ c.start_project.ensures.payloads c.start_project.ensures.journal (c.requires.in_step told)
