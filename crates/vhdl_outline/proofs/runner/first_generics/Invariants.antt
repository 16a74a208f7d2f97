-- None so far.
use Rattle.std.proofs.Common.{◌≡◌, None}
use Rattle.vhdl_outline.specs.Calls.{first_index, opens_generics}
use Rattle.vhdl_outline.proofs.runner.first_generics.Given as goal

abbrev pub invariant-loop-at : goal.invariant-loop-at
invariant-loop-at l = first_index (opens_generics l.roles) l.start l.at ≡ None
