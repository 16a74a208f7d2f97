-- What holds at each turn of the loop of `all_failed`: the verdicts so far.
use Rattle.std.proofs.Common.{◌≡◌, map, take}
use Rattle.testbench_runs.specs.declared.ends.Verdict.TheVariants.{Failed}
use Rattle.testbench_runs.proofs.table.all_failed.Given as goal

abbrev pub invariant-loop : goal.invariant-loop
invariant-loop l = l.list ≡ map (λ name. Failed) (take l.index l.items)
