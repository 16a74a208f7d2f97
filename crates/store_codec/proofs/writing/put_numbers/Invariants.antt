use Rattle.std.proofs.Common.{◌≡◌, ◌++◌, length, take}
use Rattle.std.specs.Int.{w64, to_le_bytes}
use Rattle.std.specs.List.{flat_map}
use Rattle.base.specs.Bytes.{number_bytes}
use Rattle.store_codec.proofs.writing.put_numbers.Given as goal

abbrev pub invariant-loop-number : goal.invariant-loop-number
invariant-loop-number l = l.out ≡ l.fn.out ++ (number_bytes (length l.numbers) ++ flat_map (to_le_bytes w64) (take l.number-index l.numbers))
