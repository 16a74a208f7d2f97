-- So far those of the units up to the index.
use Rattle.std.proofs.Common.{◌≡◌, List, filter, take}
use Rattle.base.specs.declared.design.Scan.{Scan}
use Rattle.testbench_scan.specs.Benches.{is_bench}
use Rattle.testbench_scan.specs.Files.{AreInFiles, AreNamed, AreScannedAs, scanned}
use Rattle.testbench_scan.proofs.numbers.bench_numbers.Given as goal

abbrev pub invariant-loop-id : goal.invariant-loop-id
invariant-loop-id l = record {
  all : (scans : List Scan) → AreScannedAs l.files scans → l.benches.items ≡ filter (is_bench (scanned l.files scans)) (take l.id-index l.ids);
  within : AreInFiles l.files l.benches.items;
  named : AreNamed l.files l.benches.items;
}
