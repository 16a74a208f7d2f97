-- So far the units up to the number.
use Rattle.std.proofs.Common.{take}
use Rattle.vhdl_scope.specs.Owned.{AddsOwned}
use Rattle.vhdl_scope.proofs.groups.add_groups.Given as goal

abbrev pub invariant-loop-number : goal.invariant-loop-number
invariant-loop-number l = AddsOwned l.keeps l.library (take l.number l.units) l.initial.groups l.initial.owned.items l.groups l.owned.items
