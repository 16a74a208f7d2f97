use Rattle.std.proofs.Common.{◌≡◌, take}
use Rattle.passes_codec.specs.PassTables.{pass_table_of}
use Rattle.passes_table.specs.Located.{ArePassesLocated, located_passes}
use Rattle.passes_table.proofs.taking.taken_up.Given as goal

abbrev pub invariant-loop-at : goal.invariant-loop-at
invariant-loop-at l = record {
  are : ArePassesLocated l.held.segments l.table;
  is : located_passes l.held.segments l.table ≡ pass_table_of (take l.at l.held.segments);
}
