use Rattle.store_table.specs.Located.{located_table}
use Rattle.store.proofs.Spelled.{IsWritten}
use Rattle.store.proofs.writing.payloads_by.Given as goal

abbrev pub invariant-loop-step : goal.invariant-loop-step
invariant-loop-step l = IsWritten (located_table l.held.segments l.table) l.plan.products.numbers l.plan.steps.items l.payloads l.step-index
