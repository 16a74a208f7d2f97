-- Spaces and tabs were left out so far.
use Rattle.std.proofs.Common.{◌≡◌, length}
use Rattle.vhdl_outline.specs.Calls.{after_pads}
use Rattle.vhdl_outline.proofs.comments.after_pads.Given as goal

abbrev pub invariant-loop-rest : goal.invariant-loop-rest
invariant-loop-rest l = after_pads l.rest ≡ after_pads l.bytes

abbrev pub decreases-loop-rest : goal.decreases-loop-rest
decreases-loop-rest l = length l.rest
