use Rattle.tests_store.proofs.tests.pass_changes.record.Goals as goal

pub commit-requires-clause-in_step : goal.commit-requires-clause-in_step
commit-requires-clause-in_step g c = λ told. c.prepare.ensures.in_step (g.D.Disk.moments c.args.disk.now).now (c.requires.in_step told)
