-- What holds at each turn of the loop of `verdicts_by`: the verdicts so far.
use Rattle.std.proofs.Common.{◌≡◌, map, take}
use Rattle.testbench_runs.specs.Starts.{verdict_by}
use Rattle.testbench_runs.proofs.table.verdicts_by.Given as goal

abbrev pub invariant-loop-name : goal.invariant-loop-name
invariant-loop-name l = l.list ≡ map (verdict_by l.said l.ends_well) (take l.name-index l.name-items)
