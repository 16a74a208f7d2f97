-- What the loops of `read_files` keep, and why they end.
use Rattle.std.proofs.Common.{◌≡◌, ◌+◌, ◌≤◌, length}
use Rattle.std.specs.Str.Lines.{lines}
use Rattle.project_file.specs.Csv.{files_after, csv_files}
use Rattle.base_collections.specs.Names.{Holds}
use Rattle.project_file.proofs.csv.read_files.Given as goal

abbrev pub invariant-lines : goal.invariant-lines
invariant-lines l = record {
  files : files_after l.files l.number (lines l.rest) ≡ csv_files l.bytes;
  seen : Holds l.seen l.files;
  few : l.number + length l.rest ≤ 1 + length l.bytes;
}

abbrev pub decreases-lines : goal.decreases-lines
decreases-lines l = length l.rest
