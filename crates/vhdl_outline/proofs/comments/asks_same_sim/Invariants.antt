-- None so far.
use Rattle.std.proofs.Common.{◌≡◌, false, take}
use Rattle.vhdl_outline.specs.Calls.{asks_same_sim}
use Rattle.vhdl_outline.proofs.comments.asks_same_sim.Given as goal

abbrev pub invariant-loop-span : goal.invariant-loop-span
invariant-loop-span l = asks_same_sim l.text (take l.span-index l.tokens.comments) ≡ false
