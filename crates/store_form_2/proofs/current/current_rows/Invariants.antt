use Rattle.store_form_2.proofs.CurrentRows.{AreCurrentTo}
use Rattle.store_form_2.proofs.current.current_rows.Given as goal

abbrev pub invariant-loop-row : goal.invariant-loop-row
invariant-loop-row l = AreCurrentTo l.table.nodes l.nodes l.row l.rows
