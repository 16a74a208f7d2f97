-- So far the sets are spread; where none has grown, those before the index take what their links hand on.
use Rattle.std.proofs.Common.{◌≡◌, false, length}
use Rattle.vhdl_scope.specs.Bits.{has}
use Rattle.vhdl_scope.specs.Links.{AreTakenTo, HasSpread}
use Rattle.vhdl_scope.proofs.spread.sweep_all.Given as goal

abbrev pub invariant-loop-at : goal.invariant-loop-at
invariant-loop-at l = record {
  room : length l.room ≡ length l.initial.room;
  spread : HasSpread l.links l.initial.rows l.rows;
  taken : l.grown ≡ false → AreTakenTo l.at l.links (has l.rows);
}
