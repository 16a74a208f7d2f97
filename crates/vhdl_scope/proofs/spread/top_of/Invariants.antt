-- So far the rows up to the index are in it.
use Rattle.std.proofs.Common.{◌≡◌, ℕ, ◌<◌, get_or, length, []}
use Rattle.vhdl_scope.specs.Bits.{IsPartOf, row_has}
use Rattle.vhdl_scope.proofs.spread.top_of.Given as goal

abbrev pub invariant-loop-row : goal.invariant-loop-row
invariant-loop-row l = record {
  even : length l.top ≡ l.words;
  inside : (k : ℕ) → k < l.row-index → IsPartOf (row_has (get_or l.rows k [])) (row_has l.top);
}
