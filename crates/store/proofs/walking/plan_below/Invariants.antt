use Rattle.store_table.specs.Located.{located_table}
use Rattle.store.proofs.Walked.{WalksBelow}
use Rattle.store.proofs.walking.plan_below.Given as goal

abbrev pub invariant-loop-k : goal.invariant-loop-k
invariant-loop-k l = WalksBelow (located_table l.held.segments l.table) l.deps l.initial.plan l.plan l.k
