-- By the one run of each.
use Rattle.vhdl_scope.specs.declared.row.Run.{Run}
use Rattle.vhdl_scope.proofs.RowLemmas.{one_over}
use Rattle.vhdl_scope.proofs.row.is_over.Goals as goal

abbrev none : Run
none = record { end = 0; word = 0 }

pub returns : goal.returns
returns c = λ passes at. one_over c.args.runs.now c.args.others.now none c.if-runs-ne1.false c.if-others-ne1.false (c.has_all.ensures passes) at
