use Rattle.store_journal.proofs.Headers.{IsWrittenTo}
use Rattle.store_journal.proofs.layout.full_side.Given as goal

abbrev pub invariant-loop-i : goal.invariant-loop-i
invariant-loop-i l = IsWrittenTo l.fn.form l.fn.generation l.fn.payloads l.i l.out
