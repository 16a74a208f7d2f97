-- So far those below the number.
use Rattle.std.proofs.Common.{◌≡◌, ◌++◌, map}
use Rattle.base.specs.PresentGraph.{below}
use Rattle.testbench_scan.specs.Benches.{unit_number}
use Rattle.testbench_scan.proofs.numbers.add_numbers.Given as goal

abbrev pub invariant-loop-unit : goal.invariant-loop-unit
invariant-loop-unit l = l.ids.items ≡ l.initial.ids.items ++ map (unit_number l.file) (below l.unit)
