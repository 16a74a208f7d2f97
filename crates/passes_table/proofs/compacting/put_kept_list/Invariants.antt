use Rattle.std.proofs.Common.{◌∷◌, ◌++◌, length}
use Rattle.base.specs.Bytes.{number_bytes}
use Rattle.store_table.specs.Located.{located_texts}
use Rattle.passes_table.proofs.KeptLists.{IsWritten}
use Rattle.passes_table.proofs.compacting.put_kept_list.Given as goal

abbrev pub invariant-loop-row : goal.invariant-loop-row
invariant-loop-row l = IsWritten l.fn.table.names.keys (located_texts l.fn.held.segments l.fn.table.texts) l.files (l.fn.out ++ 1 ∷ number_bytes (length l.files)) l.fn.texts l.row-index l.out l.texts
