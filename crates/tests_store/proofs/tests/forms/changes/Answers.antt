use Rattle.std.proofs.Common.{subst}
use Rattle.memory_outside.specs.Disks.{moments_of}
use Rattle.store_journal.specs.Finds.{found_journal}
use Rattle.store_journal.specs.Journals.{IsInStep}
use Rattle.tests_store.proofs.tests.forms.changes.Goals as goal

pub change_to_cd-requires-clause-in_step : goal.change_to_cd-requires-clause-in_step
change_to_cd-requires-clause-in_step c = subst (λ found. IsInStep (found_journal found) (moments_of c.found_in.new.disk.log).now) c.in-Older.is (c.in_ok-opened.ensures.in_step tt)
