-- What the loop of `any_components` keeps: the row is new from an index on; and why it ends.
use Rattle.std.proofs.Common.{◌≡◌, ◌≤◌, ◌+◌, ℕ, Bool, List, length}
use Rattle.project_file.specs.PathRows.{IsRow, IsRowFrom, any_end}
use Rattle.project_file.proofs.paths.any_components.Given as goal

abbrev pub invariant-loop-j : goal.invariant-loop-j
invariant-loop-j l = record {
  within : l.j ≤ length l.components;
  long : length l.row ≡ length l.components + 1;
  row : (test : List (List ℕ) → Bool) → IsRow test l.components l.fn.row → IsRowFrom test (any_end test) l.components l.j l.row;
}

abbrev pub decreases-loop-j : goal.decreases-loop-j
decreases-loop-j l = l.j
