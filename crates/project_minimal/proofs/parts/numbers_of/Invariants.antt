-- What the loops of `numbers_of` keep, and why they end.
use Rattle.std.proofs.Common.{◌≡◌, length}
use Rattle.project_views.specs.Numbers.{IsNumbered}
use Rattle.project_minimal.proofs.parts.numbers_of.Given as goal

abbrev pub invariant-loop-number : goal.invariant-loop-number
invariant-loop-number l = record { count : length l.table.items ≡ l.count; numbers : IsNumbered l.table.items l.kept l.number }
