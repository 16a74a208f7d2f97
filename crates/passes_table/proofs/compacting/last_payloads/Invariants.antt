use Rattle.std.proofs.Common.{◌≡◌, drop}
use Rattle.passes_codec.specs.Compaction.{compacted_passes}
use Rattle.passes_codec.specs.PassTables.{passes_among}
use Rattle.passes_table.specs.Kept.{AreOldNumbers, kept_on}
use Rattle.passes_table.specs.Located.{located_passes}
use Rattle.passes_table.proofs.compacting.last_payloads.Given as goal

abbrev pub invariant-loop-number : goal.invariant-loop-number
invariant-loop-number l = record {
  are : AreOldNumbers (located_passes l.held.segments l.table) l.kept.numbers;
  same : kept_on (located_passes l.held.segments l.table) l.kept (drop l.number (located_passes l.held.segments l.table).passes) ≡ compacted_passes (passes_among l.held.segments);
}
