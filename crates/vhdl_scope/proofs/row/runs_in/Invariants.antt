-- So far the words before the index are told.
use Rattle.std.proofs.Common.{get_or}
use Rattle.vhdl_scope.specs.Rows.{AreRunsTo}
use Rattle.vhdl_scope.proofs.row.runs_in.Given as goal

abbrev pub invariant-loop-at : goal.invariant-loop-at
invariant-loop-at l = AreRunsTo l.at (λ at. get_or l.words at 0) l.runs.items
