-- So far the architectures among the units up to the index.
use Rattle.std.proofs.Common.{List, take}
use Rattle.base.specs.declared.design.Scan.{Scan}
use Rattle.testbench_scan.specs.Architectures.{AreFoundInFiles, HoldsArchitectures}
use Rattle.testbench_scan.specs.Files.{AreScannedAs, scanned}
use Rattle.testbench_scan.proofs.architectures.index_of.Given as goal

abbrev pub invariant-loop-id : goal.invariant-loop-id
invariant-loop-id l = record {
  within : AreFoundInFiles l.files l.index;
  holds : (scans : List Scan) → AreScannedAs l.files scans → HoldsArchitectures (scanned l.files scans) (take l.id-index l.ids) l.index;
}
