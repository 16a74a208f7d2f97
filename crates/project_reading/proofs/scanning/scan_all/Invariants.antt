-- So far the files up to the position.
use Rattle.project_reading.proofs.ScanLemmas.{AreFirst}
use Rattle.project_reading.proofs.scanning.scan_all.Given as goal

abbrev pub invariant-loop-i : goal.invariant-loop-i
invariant-loop-i l = AreFirst l.files l.texts l.i l.outlines
