-- What the loops of `without_blanks_after` keep, and why they end.
use Rattle.std.proofs.Common.{◌≡◌, length, reverse}
use Rattle.project_file.specs.Csv.{without_blanks}
use Rattle.project_file.proofs.csv.without_blanks_after.Given as goal

abbrev pub invariant-loop-rest : goal.invariant-loop-rest
invariant-loop-rest l = without_blanks (reverse l.rest) ≡ without_blanks (reverse l.bytes)

abbrev pub decreases-loop-rest : goal.decreases-loop-rest
decreases-loop-rest l = length l.rest
