use Rattle.std.proofs.Common.{◌≡◌, ◌*◌, ◌≤◌, length, take}
use Rattle.std.specs.List.{flat_map}
use Rattle.store_table.specs.Located.{located_texts}
use Rattle.passes_codec.specs.Forms.{file_bytes}
use Rattle.passes_table.specs.Pending.{all_known, all_texts, row_drafts}
use Rattle.passes_table.specs.declared.writing.TheConstants.{FILE_SIZE}
use Rattle.passes_table.proofs.writing.files_size.Given as goal

abbrev pub invariant-loop-row : goal.invariant-loop-row
invariant-loop-row l = record {
  known : l.known ≡ all_known (length (located_texts l.held.segments l.table.texts)) (take l.row-index l.list.row.files);
  size : l.size ≡ length (flat_map file_bytes (row_drafts l.table.names.keys (all_texts (located_texts l.held.segments l.table.texts) l.list) (length (located_texts l.held.segments l.table.texts)) (take l.row-index l.list.row.files)));
  small : l.size ≤ l.row-index * FILE_SIZE;
}
