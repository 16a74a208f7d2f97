use Rattle.store_table.specs.Located.{located_table}
use Rattle.store.proofs.Walked.{WalksRecords}
use Rattle.store.proofs.walking.plan_all.Given as goal

abbrev pub invariant-loop-number : goal.invariant-loop-number
invariant-loop-number l = WalksRecords (located_table l.held.segments l.table) l.plan l.number
