-- None so far.
use Rattle.std.proofs.Common.{◌≡◌, None}
use Rattle.vhdl_spec.specs.References.{first_for}
use Rattle.vhdl_outline.proofs.structural.first_for.Given as goal

abbrev pub invariant-loop-at : goal.invariant-loop-at
invariant-loop-at l = first_for l.roles l.start l.at ≡ None
