-- So far as many rows, all empty.
use Rattle.std.proofs.Common.{◌≡◌, ℕ, false, length}
use Rattle.vhdl_graph.specs.Rows.{is_in_row}
use Rattle.vhdl_graph.proofs.pairs.no_rows.Given as goal

abbrev pub invariant-loop-file : goal.invariant-loop-file
invariant-loop-file l = record {
  each : length l.rows.items ≡ l._file;
  none : (user at : ℕ) → is_in_row l.rows.items user at ≡ false;
}
