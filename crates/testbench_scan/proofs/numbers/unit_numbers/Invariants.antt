-- So far those of the files up to the position.
use Rattle.std.proofs.Common.{◌≡◌, List}
use Rattle.std.specs.List.{flat_map}
use Rattle.base.specs.PresentGraph.{below}
use Rattle.base.specs.declared.design.Scan.{Scan}
use Rattle.testbench_scan.specs.Benches.{file_units}
use Rattle.testbench_scan.specs.Files.{AreInFiles, AreScannedAs}
use Rattle.testbench_scan.proofs.numbers.unit_numbers.Given as goal

abbrev pub invariant-loop-file : goal.invariant-loop-file
invariant-loop-file l = record {
  all : (scans : List Scan) → AreScannedAs l.files scans → l.ids.items ≡ flat_map (file_units scans) (below l.file);
  within : AreInFiles l.files l.ids.items;
}
