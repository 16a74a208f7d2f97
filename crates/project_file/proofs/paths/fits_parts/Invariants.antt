-- What the loop of `fits_parts` keeps: the row of the parts from an index on; and why it ends.
use Rattle.std.proofs.Common.{◌≤◌, length, drop}
use Rattle.project_file.specs.PathRows.{IsRow, fits_parts}
use Rattle.project_file.proofs.paths.fits_parts.Given as goal

abbrev pub invariant-loop-i : goal.invariant-loop-i
invariant-loop-i l = record {
  within : l.i ≤ length l.parts;
  row : IsRow (fits_parts (drop l.i l.parts)) l.components l.row;
}

abbrev pub decreases-loop-i : goal.decreases-loop-i
decreases-loop-i l = l.i
