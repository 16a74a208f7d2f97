-- What the loops of `to_lower_case` keep, and why they end.
use Rattle.std.proofs.Common.{◌≡◌, map, take}
use Rattle.std.specs.Char.{to_ascii_lowercase}
use Rattle.project_file.proofs.csv.to_lower_case.Given as goal

abbrev pub invariant-loop-byte : goal.invariant-loop-byte
invariant-loop-byte l = l.lowered.items ≡ map to_ascii_lowercase (take l.byte-index l.bytes)
