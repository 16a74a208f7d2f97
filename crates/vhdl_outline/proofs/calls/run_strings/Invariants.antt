-- The strings so far.
use Rattle.std.proofs.Common.{◌≡◌, ◌-◌, ◌≤◌}
use Rattle.std.specs.List.{All}
use Rattle.vhdl_outline.specs.Calls.{run_strings}
use Rattle.vhdl_outline.specs.Runs.{IsStringIn}
use Rattle.vhdl_outline.proofs.calls.run_strings.Given as goal

abbrev pub invariant-loop-at : goal.invariant-loop-at
invariant-loop-at l = record {
  after : l.start ≤ l.at;
  within : l.at ≤ l.end;
  are : l.strings.items ≡ run_strings l.text l.tokens.list l.start l.at;
  lie : All (IsStringIn l.text) l.strings.items;
}

abbrev pub decreases-loop-at : goal.decreases-loop-at
decreases-loop-at l = l.end - l.at
