use Rattle.std.proofs.Common.{◌≡◌, take}
use Rattle.base_bytes.proofs.copying.copy_numbers.Given as goal

abbrev pub invariant-loop-index : goal.invariant-loop-index
invariant-loop-index l = l.copy ≡ take l.index l.numbers
