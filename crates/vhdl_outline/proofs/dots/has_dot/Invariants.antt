-- No dot so far, unless one was found.
use Rattle.std.proofs.Common.{◌≡◌, false}
use Rattle.vhdl_outline.specs.Dots.{IsDotless}
use Rattle.vhdl_outline.proofs.dots.has_dot.Given as goal

abbrev pub invariant-loop-at : goal.invariant-loop-at
invariant-loop-at l = l.found ≡ false → IsDotless l.roles l.from l.at
