use Rattle.std.proofs.Common.{◌≡◌, ◌*◌, ◌≤◌, ℕ, List, [], length}
use Rattle.store_table.specs.Located.{located_texts}
use Rattle.passes_table.specs.declared.writing.TheConstants.{FILE_SIZE}
use Rattle.passes_table.proofs.KeptLists.{IsWritten}
use Rattle.passes_table.proofs.counting.kept_list_size.Given as goal

abbrev pub invariant-loop-row : goal.invariant-loop-row
invariant-loop-row l = record {
  written : (out : List ℕ) × (length out ≡ l.size) × IsWritten l.fn.table.names.keys (located_texts l.fn.held.segments l.fn.table.texts) l.files [] l.fn.texts l.row-index out l.texts;
  small : l.size ≤ l.row-index * FILE_SIZE;
}
