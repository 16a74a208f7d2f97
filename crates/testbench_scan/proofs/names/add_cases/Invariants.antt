-- So far no name of the cases up to the index came before, and all were added.
use Rattle.std.proofs.Common.{◌++◌, ℕ, List, map, take}
use Rattle.testbench_select.specs.Selection.{full_name, name_start}
use Rattle.testbench_scan.specs.Paths.{HoldsFullNames, Leads}
use Rattle.testbench_scan.proofs.Repeats.{NoneRepeated}
use Rattle.testbench_scan.proofs.names.add_cases.Given as goal

abbrev pub invariant-loop-test_case : goal.invariant-loop-test_case
invariant-loop-test_case l = record {
  start : Leads l.names.steps.keys l.start (name_start l.bench);
  added : (before : List (List ℕ)) → HoldsFullNames l.initial.names before → HoldsFullNames l.names (before ++ map (full_name l.bench) (take l.test_case-index l.bench.cases)) × NoneRepeated before (map (full_name l.bench) (take l.test_case-index l.bench.cases));
}
