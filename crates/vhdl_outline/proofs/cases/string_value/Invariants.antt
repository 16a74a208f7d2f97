-- The bytes so far, followed by the value of the remaining bytes, are the value of the string.
use Rattle.std.proofs.Common.{◌≡◌, ◌++◌, length}
use Rattle.vhdl_outline.specs.Calls.{unquoted}
use Rattle.vhdl_outline.proofs.cases.string_value.Given as goal

abbrev pub invariant-loop-rest : goal.invariant-loop-rest
invariant-loop-rest l = l.name.items ++ unquoted l.rest ≡ unquoted l.bytes

abbrev pub decreases-loop-rest : goal.decreases-loop-rest
decreases-loop-rest l = length l.rest
