-- What the units up to the number say.
use Rattle.std.proofs.Common.{◌≡◌, map, take}
use Rattle.std.specs.List.{All}
use Rattle.vhdl_outline.specs.Runs.{UnitRunsLieIn, unit_runs}
use Rattle.vhdl_outline.proofs.runs.testbench_facts.Given as goal

abbrev pub invariant-loop-number : goal.invariant-loop-number
invariant-loop-number l = record {
  are : l.units.items ≡ map (unit_runs l.text l.scan.tokens.list) (take l.number l.scan.units);
  lie : All (UnitRunsLieIn l.text) l.units.items;
}
