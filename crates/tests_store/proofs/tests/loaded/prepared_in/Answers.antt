use Rattle.tests_store.proofs.Fitting.{deps_built}
use Rattle.tests_store.proofs.tests.loaded.prepared_in.Goals as goal

pub prepare-requires-clause-built : goal.prepare-requires-clause-built
prepare-requires-clause-built c = deps_built _ _ _ (c.is_current.ensures.0 c.if-not-is_current.false)
