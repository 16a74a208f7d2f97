-- What the lines that are left say is added in time.
use Rattle.std.proofs.Common.{◌≡◌, ℕ, List, length}
use Rattle.child_lines.specs.Lines.{lines}
use Rattle.child_tools.proofs.Failing.{in_time}
use Rattle.child_tools.proofs.failures.take_artefact.Given as goal

abbrev pub invariant-loop-line : goal.invariant-loop-line
invariant-loop-line l = (name : List ℕ) → in_time l.wanted (lines l.rest) l.failing name ≡ in_time l.wanted (lines l.artefact) l.initial.failing name

abbrev pub decreases-loop-line : goal.decreases-loop-line
decreases-loop-line l = length l.rest
