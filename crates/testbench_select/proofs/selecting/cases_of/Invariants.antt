-- So far those of the cases up to the index; the name begins with what all names of the bench begin with.
use Rattle.std.proofs.Common.{◌≡◌, filter, take}
use Rattle.testbench_select.specs.Selection.{full_name, is_selected, name_start}
use Rattle.testbench_select.proofs.selecting.cases_of.Given as goal

abbrev pub invariant-loop-test_case : goal.invariant-loop-test_case
invariant-loop-test_case l = record {
  cases : l.cases ≡ filter (λ test_case. is_selected l.patterns (full_name l.bench test_case)) (take l.test_case-index l.bench.cases);
  start : take l.kept l.name.items ≡ name_start l.bench;
}
