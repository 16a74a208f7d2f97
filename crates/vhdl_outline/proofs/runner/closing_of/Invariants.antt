-- None so far, and how many parentheses were opened and closed.
use Rattle.std.proofs.Common.{◌≡◌, ◌≤◌, ◌-◌, None, slice_range}
use Rattle.std.specs.List.{count_by}
use Rattle.vhdl_spec.specs.Units.{is_opening, is_closing}
use Rattle.vhdl_outline.specs.Calls.{closing_of}
use Rattle.vhdl_outline.proofs.runner.closing_of.Given as goal

abbrev pub invariant-loop-at : goal.invariant-loop-at
invariant-loop-at l = record {
  opened : l.opened ≡ count_by is_opening (slice_range l.roles l.opening l.at);
  closed : l.closed ≡ count_by is_closing (slice_range l.roles l.opening l.at);
  few_opened : l.opened ≤ l.at - l.opening;
  few_closed : l.closed ≤ l.at - l.opening;
  none : closing_of l.roles l.opening l.at ≡ None;
}
