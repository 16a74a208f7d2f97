-- So far the words before the index are those of the runs.
use Rattle.std.proofs.Common.{◌≡◌, ◌<◌, ℕ, get_or, length}
use Rattle.vhdl_scope.specs.Rows.{word_or}
use Rattle.vhdl_scope.proofs.row.put_runs.Given as goal

abbrev pub invariant-loop-at : goal.invariant-loop-at
invariant-loop-at l = record {
  long : length l.words ≡ length l.initial.words;
  told : (k : ℕ) → k < l.at → get_or l.words k 0 ≡ word_or 0 l.runs k;
}
