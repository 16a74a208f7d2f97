-- So far the words before the index are merged.
use Rattle.std.proofs.Common.{◌≤◌, ◌-◌, drop}
use Rattle.vhdl_scope.specs.Rows.{AreMergedTo, ArePassed}
use Rattle.vhdl_scope.proofs.row.merge.Given as goal

abbrev pub invariant-loop-at : goal.invariant-loop-at
invariant-loop-at l = record {
  within : l.at ≤ l.words;
  merged : AreMergedTo l.at l.first l.second l.merged.items l.grown;
  first : ArePassed l.at l.first (drop l.one l.first);
  second : ArePassed l.at l.second (drop l.two l.second);
}

abbrev pub decreases-loop-at : goal.decreases-loop-at
decreases-loop-at l = l.words - l.at
