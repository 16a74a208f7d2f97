use Rattle.std.proofs.Common.{◌≡◌, take}
use Rattle.store_codec.specs.RecordTables.{record_table_of}
use Rattle.store_table.specs.Located.{IsTableLocated, located_table}
use Rattle.store_table.proofs.taking.taken_up.Given as goal

abbrev pub invariant-loop-at : goal.invariant-loop-at
invariant-loop-at l = record {
  are : IsTableLocated l.held.segments l.table;
  is : located_table l.held.segments l.table ≡ record_table_of (take l.at l.held.segments);
}
