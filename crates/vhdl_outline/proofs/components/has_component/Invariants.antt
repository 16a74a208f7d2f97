-- No `component` so far, unless one was found.
use Rattle.std.proofs.Common.{◌≡◌, false}
use Rattle.vhdl_outline.specs.Components.{HasNoComponent}
use Rattle.vhdl_outline.proofs.components.has_component.Given as goal

abbrev pub invariant-loop-at : goal.invariant-loop-at
invariant-loop-at l = l.found ≡ false → HasNoComponent l.roles l.from l.at
