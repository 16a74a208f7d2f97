-- What the loop of `components` keeps, and why it ends.
use Rattle.std.proofs.Common.{◌≡◌, ◌++◌, length}
use Rattle.project_file.specs.Paths.{components}
use Rattle.project_file.specs.PathRows.{texts_seen}
use Rattle.project_file.proofs.paths.components.Given as goal

abbrev pub invariant-loop-part : goal.invariant-loop-part
invariant-loop-part l = texts_seen l.parts.items ++ components l.rest ≡ components l.path

abbrev pub decreases-loop-part : goal.decreases-loop-part
decreases-loop-part l = length l.rest
