use Rattle.std.proofs.Common.{◌≡◌, drop, length}
use Rattle.memory_outside.specs.Scripts.{same_texts}
use Rattle.memory_outside.proofs.table.same_texts.Given as goal

abbrev pub invariant-loop-i : goal.invariant-loop-i
invariant-loop-i l = (length l.texts ≡ length l.others) × (same_texts l.texts l.others ≡ same_texts (drop l.i l.texts) (drop l.i l.others))
