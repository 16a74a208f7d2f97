use Rattle.std.proofs.Common.{◌≡◌, ◌-◌, ◌^◌, min, length, drop}
use Rattle.std.specs.List.{flat_map}
use Rattle.store_journal.specs.Payloads.{block}
use Rattle.passes_codec.specs.Compaction.{compacted_passes}
use Rattle.passes_codec.specs.PassTables.{passes_among}
use Rattle.passes_table.specs.Kept.{AreOldNumbers, counted_on}
use Rattle.passes_table.specs.Located.{located_passes}
use Rattle.passes_table.proofs.counting.kept_length.Given as goal

abbrev pub invariant-loop-number : goal.invariant-loop-number
invariant-loop-number l = record {
  are : AreOldNumbers (located_passes l.held.segments l.table) l.counted.numbers;
  same : counted_on (located_passes l.held.segments l.table) l.counted (drop l.number (located_passes l.held.segments l.table).passes) ≡ min (2 ^ 64 - 1) (length (flat_map block (compacted_passes (passes_among l.held.segments))));
}
