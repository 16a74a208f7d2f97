-- What the loop of `one_component` keeps: the row is new before an index.
use Rattle.std.proofs.Common.{◌≡◌, ◌+◌, ◌≤◌, ℕ, Bool, List, length}
use Rattle.testbench_select.specs.Segments.{is_match}
use Rattle.testbench_select.specs.Fits.{first_is}
use Rattle.project_file.specs.PathRows.{IsRow, IsRowFrom}
use Rattle.project_file.proofs.paths.one_component.Given as goal

abbrev pub invariant-loop-j : goal.invariant-loop-j
invariant-loop-j l = record {
  within : l.j ≤ length l.components;
  long : length l.row ≡ length l.components + 1;
  row : (test : List (List ℕ) → Bool) → IsRow test l.components l.fn.row → IsRowFrom (first_is (is_match l.pattern) test) test l.components l.j l.row;
}
