-- No call may be at a token so far, unless one was found.
use Rattle.std.proofs.Common.{◌≡◌, false}
use Rattle.vhdl_outline.specs.Passing.{IsUncalled}
use Rattle.vhdl_outline.proofs.passing.may_call_any.Given as goal

abbrev pub invariant-loop-at : goal.invariant-loop-at
invariant-loop-at l = l.found ≡ false → IsUncalled l.roles l.from l.at
