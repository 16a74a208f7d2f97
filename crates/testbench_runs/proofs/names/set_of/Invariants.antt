-- The names up to the index are in the set.
use Rattle.std.proofs.Common.{take}
use Rattle.testbench_runs.specs.Verdicts.{HasAll}
use Rattle.testbench_runs.proofs.names.set_of.Given as goal

abbrev pub invariant-loop-name : goal.invariant-loop-name
invariant-loop-name l = HasAll l.set (take l.name-index l.name-items)
