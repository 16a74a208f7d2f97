-- So far no run ends past the index.
use Rattle.std.proofs.Common.{◌≡◌, drop}
use Rattle.vhdl_scope.specs.Rows.{word_or}
use Rattle.vhdl_scope.proofs.row.word_at.Given as goal

abbrev pub invariant-loop-run : goal.invariant-loop-run
invariant-loop-run l = word_or 0 (drop l.run-index l.runs) l.at ≡ word_or 0 l.runs l.at
