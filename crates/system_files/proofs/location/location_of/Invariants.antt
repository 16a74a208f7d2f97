use Rattle.std.proofs.Common.{◌≡◌, ◌+◌, ◌≤◌, drop}
use Rattle.system_files.specs.Locations.{line_after, column_after}
use Rattle.system_files.proofs.location.location_of.Given as goal

-- what follows has the lines and columns that are left
abbrev pub invariant-loop-i : goal.invariant-loop-i
invariant-loop-i l = record {
  lines : l.line + line_after (drop l.i l.before) ≡ 1 + line_after l.before;
  columns : column_after l.column (drop l.i l.before) ≡ column_after 1 l.before;
  few_lines : l.line ≤ l.i + 1;
  few_columns : l.column ≤ l.i + 1;
}
