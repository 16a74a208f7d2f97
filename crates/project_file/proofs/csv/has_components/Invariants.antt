-- What the loops of `has_components` keep, and why they end.
use Rattle.std.proofs.Common.{◌≡◌, length}
use Rattle.project_file.specs.Csv.{has_components}
use Rattle.project_file.proofs.csv.has_components.Given as goal

abbrev pub invariant-loop-part : goal.invariant-loop-part
invariant-loop-part l = has_components l.rest ≡ has_components l.path

abbrev pub decreases-loop-part : goal.decreases-loop-part
decreases-loop-part l = length l.rest
