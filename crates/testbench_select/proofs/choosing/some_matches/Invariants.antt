-- So far none matches.
use Rattle.std.proofs.Common.{◌≡◌, false, take}
use Rattle.testbench_select.specs.Choosing.{some_matches}
use Rattle.testbench_select.proofs.choosing.some_matches.Given as goal

abbrev pub invariant-loop-number : goal.invariant-loop-number
invariant-loop-number l = some_matches l.patterns (take l.number-index l.numbers) l.name ≡ false
