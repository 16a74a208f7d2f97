use Rattle.std.proofs.Common.{◌≡◌, List}
use Rattle.store_table.specs.Located.{located_texts, nth_payload}
use Rattle.passes_codec.specs.Forms.{FileDraft}
use Rattle.passes_table.specs.Additions.{AreListed}
use Rattle.passes_table.specs.Located.{ArePassesLocated, located_passes}
use Rattle.passes_table.proofs.Files.{FilesSoFar}
use Rattle.passes_table.proofs.checking.listed_files.Given as goal

abbrev pub invariant-loop : goal.invariant-loop
invariant-loop l = record {
  table : ArePassesLocated l.held.segments l.table;
  same : located_passes l.held.segments l.table ≡ located_passes l.held.segments l.fn.table;
  lists : l.table.lists.keys ≡ l.fn.table.lists.keys;
  files : FilesSoFar (λ (files : List FileDraft). AreListed l.held.segments l.table.names.keys (located_texts l.held.segments l.table.texts) files l.list) (nth_payload l.held.segments l.fn.at) l.fn.range l.count l.counter l.next;
}
