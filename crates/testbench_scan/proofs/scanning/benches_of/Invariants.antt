-- So far the benches of the entities up to the index, without a fault.
use Rattle.std.proofs.Common.{List}
use Rattle.base.specs.declared.design.Scan.{Scan}
use Rattle.testbench_scan.specs.Architectures.{HoldsArchitectures}
use Rattle.testbench_scan.specs.Benches.{unit_numbers}
use Rattle.testbench_scan.specs.Files.{AreScannedAs, scanned}
use Rattle.testbench_scan.proofs.Founds.{AreSoFar}
use Rattle.testbench_scan.proofs.scanning.benches_of.Given as goal

abbrev pub invariant-loop-entity : goal.invariant-loop-entity
invariant-loop-entity l = (scans : List Scan) → AreScannedAs l.files scans → HoldsArchitectures (scanned l.files scans) (unit_numbers scans) l.index → AreSoFar (scanned l.files scans) l.entities l.entity-index l.names l.tests
