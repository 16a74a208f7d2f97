-- So far the runs end at the index or before it.
use Rattle.std.proofs.Common.{drop}
use Rattle.vhdl_scope.specs.Rows.{ArePassed}
use Rattle.vhdl_scope.proofs.row.stand_at.Given as goal

abbrev pub invariant-loop-index : goal.invariant-loop-index
invariant-loop-index l = ArePassed l.at l.runs (drop l.index l.runs)
