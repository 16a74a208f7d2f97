-- The lines that are left have it where all have.
use Rattle.std.proofs.Common.{◌≡◌, length}
use Rattle.std.specs.List.{list_any}
use Rattle.child_lines.specs.Lines.{lines}
use Rattle.child_tools.specs.Benches.{is_entity_line}
use Rattle.child_tools.proofs.benches.has_entity.Given as goal

abbrev pub invariant-loop-line : goal.invariant-loop-line
invariant-loop-line l = list_any (is_entity_line l.name) (lines l.rest) ≡ list_any (is_entity_line l.name) (lines l.artefact)

abbrev pub decreases-loop-line : goal.decreases-loop-line
decreases-loop-line l = length l.rest
