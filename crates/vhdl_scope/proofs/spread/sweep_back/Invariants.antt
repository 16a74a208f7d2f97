-- So far the sets are spread.
use Rattle.std.proofs.Common.{◌≡◌, length}
use Rattle.vhdl_scope.specs.Links.{HasSpread}
use Rattle.vhdl_scope.proofs.spread.sweep_back.Given as goal

abbrev pub invariant-loop-index : goal.invariant-loop-index
invariant-loop-index l = record {
  room : length l.room ≡ length l.initial.room;
  spread : HasSpread l.links l.initial.rows l.rows;
}
