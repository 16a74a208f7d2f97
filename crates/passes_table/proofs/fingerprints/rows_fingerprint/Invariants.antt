use Rattle.std.proofs.Common.{◌≡◌, take}
use Rattle.std.specs.List.{fold}
use Rattle.passes_table.specs.Fingerprints.{with_row_fingerprint}
use Rattle.passes_table.proofs.fingerprints.rows_fingerprint.Given as goal

abbrev pub invariant-loop-row : goal.invariant-loop-row
invariant-loop-row l = l.fingerprint ≡ fold with_row_fingerprint 0 (take l.row-index l.rows)
