-- So far what the patterns up to the number match is chosen.
use Rattle.std.proofs.Common.{take}
use Rattle.testbench_select.specs.Choosing.{Chooses}
use Rattle.testbench_select.proofs.choosing.unbounded_choice.Given as goal

abbrev pub invariant-loop-number : goal.invariant-loop-number
invariant-loop-number l = Chooses l.patterns (take l.number l.patterns) l.choice
