-- So far the sets are spread.
use Rattle.std.proofs.Common.{◌≡◌, length}
use Rattle.vhdl_scope.specs.Links.{HasSpread}
use Rattle.vhdl_scope.proofs.spread.sweep.Given as goal

abbrev pub invariant-loop-at : goal.invariant-loop-at
invariant-loop-at l = record {
  room : length l.room ≡ length l.initial.room;
  spread : HasSpread l.links l.initial.rows l.rows;
}
