-- So far the pairs up to the index are put in.
use Rattle.std.proofs.Common.{◌≡◌, ℕ, ◌<◌, length, take}
use Rattle.base.specs.declared.limits.TheConstants.{FILE_LIMIT}
use Rattle.vhdl_graph.specs.Rows.{has_pair, is_in_row}
use Rattle.vhdl_graph.proofs.pairs.rows_of_pairs.Given as goal

abbrev pub invariant-loop-pair : goal.invariant-loop-pair
invariant-loop-pair l = record {
  each : length l.rows.items ≡ length l.project.files;
  rows : (user at : ℕ) → user < length l.project.files → at < FILE_LIMIT → is_in_row l.rows.items user at ≡ has_pair (take l.pair-index l.project.depends) user at;
}
