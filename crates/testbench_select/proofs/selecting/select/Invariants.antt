-- So far those of the benches up to the index.
use Rattle.std.proofs.Common.{◌≡◌, take}
use Rattle.testbench_select.specs.Selection.{selection}
use Rattle.testbench_select.proofs.selecting.select.Given as goal

abbrev pub invariant-loop-bench : goal.invariant-loop-bench
invariant-loop-bench l = l.selected ≡ selection l.patterns (take l.bench-index l.tests)
