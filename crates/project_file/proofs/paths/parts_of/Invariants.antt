-- What the loop of `parts_of` keeps, and why it ends.
use Rattle.std.proofs.Common.{◌≡◌, ◌++◌, length, map}
use Rattle.project_file.specs.Paths.{components}
use Rattle.project_file.specs.PathRows.{part_of}
use Rattle.project_file.proofs.paths.parts_of.Given as goal

abbrev pub invariant-loop-part : goal.invariant-loop-part
invariant-loop-part l = l.parts ++ map part_of (components l.rest) ≡ map part_of (components l.pattern)

abbrev pub decreases-loop-part : goal.decreases-loop-part
decreases-loop-part l = length l.rest
